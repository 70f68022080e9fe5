-- Worked examples of reading that the checker computes: patterns, and texts that are refused. Assumes nothing.
use Prim.Native.Nat.{ℕ}
use Prim.Native.String.{String}
use mathlib.Core.Bool.{Bool, true, ◌&&◌}
use mathlib.Core.List.{List, [], ◌∷◌}
use lib.Dec.{T, eqb}
use lib.Ieee.{size}
use Rattle.rules.specs.Bytes.{bytes}
use Rattle.rules.specs.Tables.{raised, significands32, exponents32, significands64, exponents64}
use Rattle.rules.specs.Width.{Width, w32, w64, off}
use Rattle.rules.specs.Pattern.{all_ones}
use Rattle.rules.specs.Reading.{is_digit, extended, powered, exponent_more, exponent_first, exponent_sign, decimals_more, decimals_first, whole_more, unsigned, same, with_fraction, magnitude_of, exact, infinity, top, low, unbounded, nearest, with_sign}
use Rattle.rules.specs.Reader.{quiet_nan, answered, unread, reading}

pub data Example : Type 0 where
  -- a text's pattern
  reads : Width → String → ℕ → Example
  -- the number of a refusal, whose pattern is 0 at both widths
  refuses : String → ℕ → Example

pub holds : Example → Bool
holds (reads w s v) = eqb (reading w (bytes s)).number 0 && eqb (reading w (bytes s)).pattern v
holds (refuses s n) =
    eqb (reading w32 (bytes s)).number n
    && eqb (reading w32 (bytes s)).pattern 0
    && eqb (reading w64 (bytes s)).number n
    && eqb (reading w64 (bytes s)).pattern 0

pub all : List Example → Bool
all [] = true
all (e ∷ es) = holds e && all es

pub list : List Example
list =
    -- one half of the smallest number is a tie that goes to zero, and more is not; so for 2^24 + 1 and 2^24 + 3, and for 2^53 + 1
    reads w64 "2.4703282292062327e-324" 0x0000000000000000
    ∷ reads w64 "2.4703282292062328e-324" 0x0000000000000001
    ∷ reads w32 "16777217" 0x4b800000
    ∷ reads w32 "16777219" 0x4b800002
    ∷ reads w64 "9007199254740993" 0x4340000000000000
    ∷ reads w64 "9007199254740993.00000000000000000001" 0x4340000000000001
    -- a tenth; ten digits and more that end in zeros; 10^22, the last power of ten that binary64 has, and 10^23
    ∷ reads w64 "0.1" 0x3fb999999999999a
    ∷ reads w32 "0.1" 0x3dcccccd
    ∷ reads w32 "1.5e-1" 0x3e19999a
    ∷ reads w64 "100000000000000000000000000000e-29" 0x3ff0000000000000
    ∷ reads w64 "1e22" 0x4480f0cf064dd592
    ∷ reads w64 "1e23" 0x44b52d02c7e14af6
    -- a number that binary64 rounds to the middle between two of binary32, which then would go to the wrong one
    ∷ reads w32 "1.000000059604644776" 0x3f800001
    -- the largest numbers; a little below half a step above them, and half a step above them
    ∷ reads w64 "1.7976931348623157e308" 0x7fefffffffffffff
    ∷ reads w64 "1.7976931348623158e308" 0x7fefffffffffffff
    ∷ reads w64 "1.7976931348623159e308" 0x7ff0000000000000
    ∷ reads w32 "340282356779733661637539395458142568447" 0x7f7fffff
    ∷ reads w32 "340282356779733661637539395458142568448" 0x7f800000
    ∷ reads w32 "-3.4028236e38" 0xff800000
    -- huge and tiny; both zeros
    ∷ reads w64 "1e9999" 0x7ff0000000000000
    ∷ reads w64 "-1e-9999" 0x8000000000000000
    ∷ reads w32 "0e9999" 0x00000000
    ∷ reads w32 "-0" 0x80000000
    -- the names
    ∷ reads w32 "NaN" 0x7fc00000
    ∷ reads w64 "NaN" 0x7ff8000000000000
    ∷ reads w32 "inf" 0x7f800000
    ∷ reads w64 "-inf" 0xfff0000000000000
    -- 64 bytes, and 65; none
    ∷ reads w64 "1111111111111111111111111111111111111111111111111111111111111111" 0x4d059b91b2e388da
    ∷ refuses "11111111111111111111111111111111111111111111111111111111111111111" 10
    ∷ refuses "" 10
    -- what is no number
    ∷ refuses "-" 11
    ∷ refuses ".5" 11
    ∷ refuses "5." 11
    ∷ refuses "+1" 11
    ∷ refuses "1e" 11
    ∷ refuses "1e-" 11
    ∷ refuses "1e+5" 11
    ∷ refuses "1e12345" 11
    ∷ refuses "1E5" 11
    ∷ refuses "1.e5" 11
    ∷ refuses "1 " 11
    ∷ refuses " 1" 11
    ∷ refuses "--1" 11
    ∷ refuses "-NaN" 11
    ∷ refuses "nan" 11
    ∷ refuses "infinity" 11
    ∷ []

pub examples : T (all list)
unfolding all holds list bytes raised significands32 exponents32 significands64 exponents64 w32 w64 off all_ones is_digit extended powered exponent_more exponent_first exponent_sign decimals_more decimals_first whole_more unsigned same with_fraction magnitude_of exact infinity top low size unbounded nearest with_sign quiet_nan answered unread reading
examples = tt
