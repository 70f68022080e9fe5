-- The two tables of powers of ten, number for number as dtoa 1.0.11 has them: entry i is a significand and a binary exponent. Assumes nothing.
use Rattle.std.specs.Prelude.{ℕ, List, [], ◌∷◌, ℤ, pos, nat_abs, ◌+ℤ◌}
use Rattle.rules.specs.Numbers.{neg}

-- Each exponent with n added, as a natural number.
unfoldable pub raised : ℕ → List ℤ → List ℕ
raised n [] = []
raised n (e ∷ es) = nat_abs (e +ℤ pos n) ∷ raised n es

-- 10^-36, 10^-28, .., 10^52
unfoldable pub significands32 : List ℕ
significands32 =
    0xaa242499 ∷ 0xfd87b5f3 ∷ 0xbce50865 ∷ 0x8cbccc09 ∷
    0xd1b71759 ∷ 0x9c400000 ∷ 0xe8d4a510 ∷ 0xad78ebc6 ∷
    0x813f3979 ∷ 0xc097ce7c ∷ 0x8f7e32ce ∷ 0xd5d238a5 ∷ []

unfoldable pub exponents32 : List ℤ
exponents32 =
    neg 151 ∷ neg 125 ∷ neg 98 ∷ neg 71 ∷ neg 45 ∷ neg 18 ∷
    pos 8 ∷ pos 35 ∷ pos 62 ∷ pos 88 ∷ pos 115 ∷ pos 141 ∷ []

-- 10^-348, 10^-340, .., 10^340
unfoldable pub significands64 : List ℕ
significands64 =
    0xfa8fd5a0081c0288 ∷ 0xbaaee17fa23ebf76 ∷ 0x8b16fb203055ac76 ∷ 0xcf42894a5dce35ea ∷
    0x9a6bb0aa55653b2d ∷ 0xe61acf033d1a45df ∷ 0xab70fe17c79ac6ca ∷ 0xff77b1fcbebcdc4f ∷
    0xbe5691ef416bd60c ∷ 0x8dd01fad907ffc3c ∷ 0xd3515c2831559a83 ∷ 0x9d71ac8fada6c9b5 ∷
    0xea9c227723ee8bcb ∷ 0xaecc49914078536d ∷ 0x823c12795db6ce57 ∷ 0xc21094364dfb5637 ∷
    0x9096ea6f3848984f ∷ 0xd77485cb25823ac7 ∷ 0xa086cfcd97bf97f4 ∷ 0xef340a98172aace5 ∷
    0xb23867fb2a35b28e ∷ 0x84c8d4dfd2c63f3b ∷ 0xc5dd44271ad3cdba ∷ 0x936b9fcebb25c996 ∷
    0xdbac6c247d62a584 ∷ 0xa3ab66580d5fdaf6 ∷ 0xf3e2f893dec3f126 ∷ 0xb5b5ada8aaff80b8 ∷
    0x87625f056c7c4a8b ∷ 0xc9bcff6034c13053 ∷ 0x964e858c91ba2655 ∷ 0xdff9772470297ebd ∷
    0xa6dfbd9fb8e5b88f ∷ 0xf8a95fcf88747d94 ∷ 0xb94470938fa89bcf ∷ 0x8a08f0f8bf0f156b ∷
    0xcdb02555653131b6 ∷ 0x993fe2c6d07b7fac ∷ 0xe45c10c42a2b3b06 ∷ 0xaa242499697392d3 ∷
    0xfd87b5f28300ca0e ∷ 0xbce5086492111aeb ∷ 0x8cbccc096f5088cc ∷ 0xd1b71758e219652c ∷
    0x9c40000000000000 ∷ 0xe8d4a51000000000 ∷ 0xad78ebc5ac620000 ∷ 0x813f3978f8940984 ∷
    0xc097ce7bc90715b3 ∷ 0x8f7e32ce7bea5c70 ∷ 0xd5d238a4abe98068 ∷ 0x9f4f2726179a2245 ∷
    0xed63a231d4c4fb27 ∷ 0xb0de65388cc8ada8 ∷ 0x83c7088e1aab65db ∷ 0xc45d1df942711d9a ∷
    0x924d692ca61be758 ∷ 0xda01ee641a708dea ∷ 0xa26da3999aef774a ∷ 0xf209787bb47d6b85 ∷
    0xb454e4a179dd1877 ∷ 0x865b86925b9bc5c2 ∷ 0xc83553c5c8965d3d ∷ 0x952ab45cfa97a0b3 ∷
    0xde469fbd99a05fe3 ∷ 0xa59bc234db398c25 ∷ 0xf6c69a72a3989f5c ∷ 0xb7dcbf5354e9bece ∷
    0x88fcf317f22241e2 ∷ 0xcc20ce9bd35c78a5 ∷ 0x98165af37b2153df ∷ 0xe2a0b5dc971f303a ∷
    0xa8d9d1535ce3b396 ∷ 0xfb9b7cd9a4a7443c ∷ 0xbb764c4ca7a44410 ∷ 0x8bab8eefb6409c1a ∷
    0xd01fef10a657842c ∷ 0x9b10a4e5e9913129 ∷ 0xe7109bfba19c0c9d ∷ 0xac2820d9623bf429 ∷
    0x80444b5e7aa7cf85 ∷ 0xbf21e44003acdd2d ∷ 0x8e679c2f5e44ff8f ∷ 0xd433179d9c8cb841 ∷
    0x9e19db92b4e31ba9 ∷ 0xeb96bf6ebadf77d9 ∷ 0xaf87023b9bf0ee6b ∷ []

unfoldable pub exponents64 : List ℤ
exponents64 =
    neg 1220 ∷ neg 1193 ∷ neg 1166 ∷ neg 1140 ∷ neg 1113 ∷ neg 1087 ∷ neg 1060 ∷ neg 1034 ∷ neg 1007 ∷ neg 980 ∷
    neg 954 ∷ neg 927 ∷ neg 901 ∷ neg 874 ∷ neg 847 ∷ neg 821 ∷ neg 794 ∷ neg 768 ∷ neg 741 ∷ neg 715 ∷
    neg 688 ∷ neg 661 ∷ neg 635 ∷ neg 608 ∷ neg 582 ∷ neg 555 ∷ neg 529 ∷ neg 502 ∷ neg 475 ∷ neg 449 ∷
    neg 422 ∷ neg 396 ∷ neg 369 ∷ neg 343 ∷ neg 316 ∷ neg 289 ∷ neg 263 ∷ neg 236 ∷ neg 210 ∷ neg 183 ∷
    neg 157 ∷ neg 130 ∷ neg 103 ∷ neg 77 ∷ neg 50 ∷ neg 24 ∷ pos 3 ∷ pos 30 ∷ pos 56 ∷ pos 83 ∷
    pos 109 ∷ pos 136 ∷ pos 162 ∷ pos 189 ∷ pos 216 ∷ pos 242 ∷ pos 269 ∷ pos 295 ∷ pos 322 ∷ pos 348 ∷
    pos 375 ∷ pos 402 ∷ pos 428 ∷ pos 455 ∷ pos 481 ∷ pos 508 ∷ pos 534 ∷ pos 561 ∷ pos 588 ∷ pos 614 ∷
    pos 641 ∷ pos 667 ∷ pos 694 ∷ pos 720 ∷ pos 747 ∷ pos 774 ∷ pos 800 ∷ pos 827 ∷ pos 853 ∷ pos 880 ∷
    pos 907 ∷ pos 933 ∷ pos 960 ∷ pos 986 ∷ pos 1013 ∷ pos 1039 ∷ pos 1066 ∷ []
