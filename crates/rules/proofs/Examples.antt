-- Worked examples that the checker computes: layouts, texts, scaled numbers and answers, and rows by themselves. Assumes nothing.
use Prim.Native.Nat.{ℕ}
use Prim.Native.String.{String}
use mathlib.Core.Bool.{Bool, true, false, ◌&&◌}
use mathlib.Core.List.{List, [], ◌∷◌, ◌++◌, map}
use lib.Dec.{T, eqb}
use lib.Ieee.{size}
use lib.IntN.{ℤ, pos, sub_ℕ}
use lib.ListN.{get_or, replicate, drop}
use lib.Signed.{le_z}
use Rattle.rules.specs.Bytes.{bytes}
use Rattle.rules.specs.Numbers.{neg, count, count_up_to, numeral, plain}
use Rattle.rules.specs.Tables.{raised, significands32, exponents32, significands64, exponents64}
use Rattle.rules.specs.Width.{Width, w32, w64, off}
use Rattle.rules.specs.Pattern.{negative, biased, significand, all_ones, special, magnitude}
use Rattle.rules.specs.Boundaries.{shifted, upper, below, lower, value}
use Rattle.rules.specs.Power.{least_ten, j_raised, j, k, index, P}
use Rattle.rules.specs.Product.{product}
use Rattle.rules.specs.Scaled.{scaled, D}
use Rattle.rules.specs.Digits.{above, under, places_under, places, c, first, closer, falls, decimal}
use Rattle.rules.specs.Layout.{zeros, exponent, scientific, by_rule, layout}
use Rattle.rules.specs.Text.{shown, signed, text}
use Rattle.rules.specs.Reading as Reading
use Rattle.rules.specs.Reading.{is_digit, extended, powered, exponent_more, exponent_first, exponent_sign, decimals_more, decimals_first, whole_more, unsigned, Exact, refused, notANumber, infinite, same, with_fraction, magnitude_of, exact, infinity, top, low, unbounded, nearest, with_sign}
use Rattle.rules.specs.Answer.{Entry, every, finite_only, refuses, number, answering, leaving, answer, after}
use Rattle.rules.specs.Row.{spaced, row, row_number, row_answer, row_after, onto, pieces, cut}

pub data Example : Type 0 where
  -- the digits of a number and k, laid out
  lays : ℕ → ℤ → String → Example
  -- a pattern's text
  prints : Width → ℕ → String → Example
  -- a pattern's lower, value and upper significand and their exponent, with the table's index, entry and its exponent
  stands : Width → ℕ → ℕ → ℕ → ℕ → ℤ → ℕ → ℕ → ℤ → Example
  -- a pattern's H, L, W and x
  scales : Width → ℕ → ℕ → ℕ → ℕ → ℕ → Example
  -- a pattern that its own text reads as
  comes_back : Width → ℕ → Example
  -- an entry's number and length at a pattern, in a buffer of so many bytes 42, and the bytes that it puts before them
  answers : Entry → Width → ℕ → ℕ → ℕ → ℕ → String → Example
  -- a row's number and length, in a buffer of so many bytes 42, and the bytes that it puts before them
  answers_row : List ℕ → ℕ → ℕ → ℕ → String → Example
  -- the number of a row of so many patterns, in a buffer of so many bytes
  numbers_row : ℕ → ℕ → ℕ → Example
  -- bytes, and the texts that they are cut into
  cuts : String → List String → Example

equal : ℤ → ℤ → Bool
equal a b = le_z a b && le_z b a

buffer : ℕ → List ℕ
buffer n = replicate n 42

joins : String → List ℕ → List ℕ
joins s t = bytes s ++ t

is_pattern : Width → ℕ → Exact → Bool
is_pattern w v refused = false
is_pattern w v notANumber = false
is_pattern w v (infinite s) = false
is_pattern w v (Reading.number s n d) = eqb (with_sign w s (nearest w n d)) v

all_same : List (List ℕ) → List (List ℕ) → Bool
all_same [] [] = true
all_same [] (u ∷ us) = false
all_same (t ∷ ts) [] = false
all_same (t ∷ ts) (u ∷ us) = same t u && all_same ts us

pub holds : Example → Bool
holds (lays d z s) = same (layout (plain d) z) (bytes s)
holds (prints w v s) = same (text w v) (bytes s)
holds (stands w v l m u E i f e) =
    eqb (lower w (magnitude w v)).f l
    && eqb (value w (magnitude w v)).f m
    && eqb (upper w (magnitude w v)).f u
    && equal (sub_ℕ (lower w (magnitude w v)).exp (off w)) E
    && equal (sub_ℕ (value w (magnitude w v)).exp (off w)) E
    && equal (sub_ℕ (upper w (magnitude w v)).exp (off w)) E
    && eqb (index w (upper w (magnitude w v)).exp) i
    && eqb (get_or w.significands i 0) f
    && equal (sub_ℕ (get_or w.exponents i 0) w.twos) e
holds (scales w v h l m x) =
    eqb (scaled w (magnitude w v)).H h
    && eqb (scaled w (magnitude w v)).L l
    && eqb (scaled w (magnitude w v)).W m
    && eqb (scaled w (magnitude w v)).x x
holds (comes_back w v) = is_pattern w v (exact (text w v))
holds (answers call w v room n len s) =
    eqb (answer call w v room).number n
    && eqb (answer call w v room).len len
    && same (after call w v (buffer room)) (joins s (drop len (buffer room)))
holds (answers_row vs room n len s) =
    eqb (row_answer w32 vs room).number n
    && eqb (row_answer w32 vs room).len len
    && same (row_after w32 vs (buffer room)) (joins s (drop len (buffer room)))
holds (numbers_row count room n) = eqb (row_number count room) n
holds (cuts s ts) = all_same (cut (bytes s)) (map bytes ts)

pub all : List Example → Bool
all [] = true
all (e ∷ es) = holds e && all es

pub list : List Example
list =
    -- M1 to M10
    lays 1234 (pos 7) "12340000000.0"
    ∷ lays 1234 (neg 2) "12.34"
    ∷ lays 1234 (neg 6) "0.001234"
    ∷ lays 1234 (pos 30) "1.234e33"
    ∷ lays 1 (pos 30) "1e30"
    ∷ lays 1 (pos 20) "100000000000000000000.0"
    ∷ lays 1 (pos 21) "1e21"
    ∷ lays 1 (neg 6) "0.000001"
    ∷ lays 1 (neg 7) "1e-7"
    ∷ lays 12345678901234567 (neg 22) "0.0000012345678901234567"
    -- M11
    ∷ stands w32 0x3f800000 0x7fffffc0 0x80000000 0x80000080 (neg 31) 5 0x9c400000 (neg 18)
    -- M12
    ∷ prints w32 0x00000000 "0.0"
    ∷ prints w32 0x80000000 "-0.0"
    ∷ prints w32 0x7f800000 "inf"
    ∷ prints w32 0xff800000 "-inf"
    ∷ prints w32 0x7fc00000 "NaN"
    ∷ prints w32 0xff800001 "NaN"
    ∷ prints w64 0x0000000000000000 "0.0"
    ∷ prints w64 0x8000000000000000 "-0.0"
    ∷ prints w64 0x7ff0000000000000 "inf"
    ∷ prints w64 0xfff0000000000000 "-inf"
    ∷ prints w64 0x7ff8000000000000 "NaN"
    ∷ prints w64 0xfff0000000000001 "NaN"
    -- one number at both widths
    ∷ prints w64 0x4005bf0995aaf790 "2.71828"
    ∷ prints w32 0x402df84d "2.71828"
    -- the smallest, the smallest normal and its two neighbours, the largest
    ∷ prints w64 0x0000000000000001 "5e-324"
    ∷ prints w64 0x000fffffffffffff "2.225073858507201e-308"
    ∷ prints w64 0x0010000000000000 "2.2250738585072014e-308"
    ∷ prints w64 0x0010000000000001 "2.225073858507202e-308"
    ∷ prints w64 0x7fefffffffffffff "1.7976931348623157e308"
    ∷ prints w32 0x00000001 "1e-45"
    ∷ prints w32 0x007fffff "1.1754942e-38"
    ∷ prints w32 0x00800000 "1.1754944e-38"
    ∷ prints w32 0x00800001 "1.1754945e-38"
    -- the largest of binary32 is at E = 96, with index 0
    ∷ prints w32 0x7f7fffff "3.4028235e38"
    ∷ stands w32 0x7f7fffff 0xfffffe80 0xffffff00 0xffffff80 (pos 96) 0 0xaa242499 (neg 151)
    -- the smallest normal: its lower side is narrower than the true gap, which no text shows
    ∷ stands w64 0x0010000000000000 0x7ffffffffffffe00 0x8000000000000000 0x8000000000000400 (neg 1085) 83 0xd433179d9c8cb841 (pos 986)
    ∷ scales w64 0x0010000000000000 0x6a198bcece465f70 0x6a198bcece465a79 0x6a198bcece465c21 35
    ∷ scales w32 0x00800000 0x47bf19ae 0x47bf1944 0x47bf1967 10
    -- M6 and M7 as patterns
    ∷ prints w64 0x4415af1d78b58c40 "100000000000000000000.0"
    ∷ prints w64 0x444b1ae4d6e2ef50 "1e21"
    -- 25 bytes
    ∷ prints w64 0xbec2c86d907ec0e7 "-0.0000022390987659202535"
    -- the last digit falls to 0
    ∷ prints w64 0x06900000ae3960a5 "4.512988868750000e-277"
    -- the distance that is 0 nine places below zero
    ∷ prints w64 0x3c7288307311d8a3 "1.6073938430772717e-17"
    -- the rest equals D: at a place above zero, which passes, and at one below, which does not
    ∷ prints w32 0x6da6ac26 "6.447828e27"
    ∷ prints w32 0x4064c505 "3.5745251"
    -- a fall that D alone forbids: of all binary32 patterns three have one, powers of two, and six of binary64's powers of two
    ∷ prints w32 0x0f800000 "1.2621775e-29"
    ∷ prints w64 0x13e0000000000000 "5.940911144672375e-213"
    -- texts that come back: a power of two, the smallest and the smallest normal, the largest, both zeros
    ∷ comes_back w32 0x3f800000
    ∷ comes_back w32 0x0f800000
    ∷ comes_back w32 0x00000001
    ∷ comes_back w32 0x00800000
    ∷ comes_back w32 0xff7fffff
    ∷ comes_back w32 0x80000000
    ∷ comes_back w64 0x13e0000000000000
    ∷ comes_back w64 0x0000000000000001
    ∷ comes_back w64 0x0010000000000000
    ∷ comes_back w64 0xffefffffffffffff
    ∷ comes_back w64 0x0000000000000000
    -- a printed text, a buffer too short, a refused infinity, and both at once
    ∷ answers every w32 0xbf800000 27 0 4 "-1.0"
    ∷ answers finite_only w64 0xbec2c86d907ec0e7 25 0 25 "-0.0000022390987659202535"
    ∷ answers every w64 0 24 1 0 ""
    ∷ answers every w64 0x7ff0000000000000 25 0 3 "inf"
    ∷ answers finite_only w64 0x7ff0000000000000 25 2 0 ""
    ∷ answers finite_only w32 0xffc00000 26 2 0 ""
    ∷ answers finite_only w64 0x7ff0000000000000 24 1 0 ""
    ∷ []

pub examples : T (all list)
unfolding all holds equal buffer joins is_pattern list bytes count_up_to count numeral plain raised significands32 exponents32 significands64 exponents64 w32 w64 off negative biased significand all_ones special magnitude shifted upper below lower value least_ten j_raised j k index P product scaled D above under places_under places c first closer falls decimal zeros exponent scientific by_rule layout shown signed text is_digit extended powered exponent_more exponent_first exponent_sign decimals_more decimals_first whole_more unsigned same with_fraction magnitude_of exact infinity top low size unbounded nearest with_sign refuses number answering leaving answer after
examples = tt

pub rows : List Example
rows =
    -- rows of none, one, two and four; a row with one byte of room too few
    answers_row [] 0 0 0 ""
    ∷ answers_row [] 3 0 0 ""
    ∷ answers_row (0x3f800000 ∷ []) 26 0 3 "1.0"
    ∷ answers_row (0x3f800000 ∷ 0xbf000000 ∷ []) 52 0 8 "1.0 -0.5"
    ∷ answers_row (0x80000000 ∷ 0x7fc00000 ∷ 0xff800000 ∷ 0x44fa1000 ∷ []) 110 0 20 "-0.0 NaN -inf 2000.5"
    ∷ answers_row (0x3f800000 ∷ []) 25 4 0 ""
    ∷ answers_row (0x3f800000 ∷ 0xbf000000 ∷ []) 51 4 0 ""
    -- 4,096 patterns are the most, and too many come before too short
    ∷ numbers_row 4096 106496 0
    ∷ numbers_row 4096 106495 4
    ∷ numbers_row 4097 106522 3
    ∷ numbers_row 4097 0 3
    -- rows cut at their spaces
    ∷ cuts "" []
    ∷ cuts "1.0" ("1.0" ∷ [])
    ∷ cuts "-0.0 NaN 1e-7" ("-0.0" ∷ "NaN" ∷ "1e-7" ∷ [])
    ∷ cuts " 1.0 " ("" ∷ "1.0" ∷ "" ∷ [])
    ∷ []

pub row_examples : T (all rows)
unfolding all holds all_same buffer joins rows bytes count_up_to count numeral plain raised significands32 exponents32 w32 off negative biased significand all_ones special magnitude shifted upper below lower value least_ten j_raised j k index P product scaled D above under places_under places c first closer falls decimal zeros exponent scientific by_rule layout shown signed text same answering leaving spaced row row_number row_answer row_after onto pieces cut
row_examples = tt
