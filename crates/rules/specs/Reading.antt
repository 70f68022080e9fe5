-- Exact reading: from a text to its sign and fraction, and from a fraction to the nearest pattern. Assumes nothing.
use Rattle.std.specs.Prelude.{ℕ, suc, ◌+◌, ◌-◌, ◌*◌, ◌/◌, ◌%◌, ◌^◌, ◌≤◌, ◌<◌, min, ◌≡◌, Bool, true, false, ◌&&◌, List, [], ◌∷◌, leb, ltb, eqb}
use Rattle.std.specs.Float.Ieee.{size}
use Rattle.std.specs.Float.Ieee.Nearest.{closest}
use Rattle.rules.specs.Bytes.{bytes, byte0, point, minus, letter_e}
use Rattle.rules.specs.Width.{Width, off}
use Rattle.rules.specs.Pattern.{significand, all_ones, magnitude}

-- ---- from a text to a fraction

-- What a text without a sign says: no number, or the fraction n / d.
pub data Unsigned : Type 0 where
  no_number : Unsigned
  over : ℕ → ℕ → Unsigned

-- Whether a byte is a digit.
unfoldable pub is_digit : ℕ → Bool
is_digit b = leb byte0 b && ltb b (byte0 + 10)

-- The number a, with one more digit behind it.
unfoldable pub extended : ℕ → ℕ → ℕ
extended a b = a * 10 + (b - byte0)

-- a / 10^n times 10^e, or times 10^-e.
unfoldable pub powered : ℕ → ℕ → Bool → ℕ → Unsigned
powered a n true e = over a (10 ^ n * 10 ^ e)
powered a n false e = over (a * 10 ^ e) (10 ^ n)

-- Behind c digits of an exponent, which make e: more of them, up to four, or the end.
unfoldable pub exponent_more : ℕ → ℕ → Bool → ℕ → ℕ → List ℕ → Unsigned
exponent_more a n below e c [] = powered a n below e
exponent_more a n below e c (b ∷ bs) =
    elim (is_digit b && ltb c 4) [ true ↦ exponent_more a n below (extended e b) (suc c) bs | false ↦ no_number ]

-- Behind an exponent's sign, or where it has none: a digit.
unfoldable pub exponent_first : ℕ → ℕ → Bool → List ℕ → Unsigned
exponent_first a n below [] = no_number
exponent_first a n below (b ∷ bs) = elim (is_digit b) [ true ↦ exponent_more a n below (extended 0 b) 1 bs | false ↦ no_number ]

-- Behind an `e`: perhaps a `-`.
unfoldable pub exponent_sign : ℕ → ℕ → List ℕ → Unsigned
exponent_sign a n [] = no_number
exponent_sign a n (b ∷ bs) =
    elim (eqb b minus) [ true ↦ exponent_first a n true bs | false ↦ exponent_first a n false (b ∷ bs) ]

-- Behind n digits that follow the point, all digits making a: more of them, an `e`, or the end.
unfoldable pub decimals_more : ℕ → ℕ → List ℕ → Unsigned
decimals_more a n [] = over a (10 ^ n)
decimals_more a n (b ∷ bs) =
    elim (is_digit b) [
      | true ↦ decimals_more (extended a b) (suc n) bs
      | false ↦ elim (eqb b letter_e) [ true ↦ exponent_sign a n bs | false ↦ no_number ]
    ]

-- Behind the point: a digit.
unfoldable pub decimals_first : ℕ → List ℕ → Unsigned
decimals_first a [] = no_number
decimals_first a (b ∷ bs) = elim (is_digit b) [ true ↦ decimals_more (extended a b) 1 bs | false ↦ no_number ]

-- Behind digits that make a: more of them, a point, an `e`, or the end.
unfoldable pub whole_more : ℕ → List ℕ → Unsigned
whole_more a [] = over a 1
whole_more a (b ∷ bs) =
    elim (is_digit b) [
      | true ↦ whole_more (extended a b) bs
      | false ↦
          elim (eqb b point) [
            | true ↦ decimals_first a bs
            | false ↦ elim (eqb b letter_e) [ true ↦ exponent_sign a 0 bs | false ↦ no_number ]
          ]
    ]

-- A number without a sign: it begins with a digit.
unfoldable pub unsigned : List ℕ → Unsigned
unsigned [] = no_number
unsigned (b ∷ bs) = elim (is_digit b) [ true ↦ whole_more (extended 0 b) bs | false ↦ no_number ]

-- What a text says: nothing, NaN, an infinity, or the fraction n / d; true stands for a `-`.
pub data Exact : Type 0 where
  refused : Exact
  notANumber : Exact
  infinite : Bool → Exact
  number : Bool → ℕ → ℕ → Exact

-- Whether two texts are the same.
unfoldable pub same : List ℕ → List ℕ → Bool
same [] [] = true
same [] (b ∷ bs) = false
same (a ∷ as') [] = false
same (a ∷ as') (b ∷ bs) = eqb a b && same as' bs

-- A number's sign and fraction together.
unfoldable pub with_fraction : Bool → Unsigned → Exact
with_fraction s no_number = refused
with_fraction s (over n d) = number s n d

-- Behind the sign: `inf` or a number.
unfoldable pub magnitude_of : Bool → List ℕ → Exact
magnitude_of s t = elim (same t (bytes "inf")) [ true ↦ infinite s | false ↦ with_fraction s (unsigned t) ]

-- The exact reading of a text: `NaN`, or perhaps a `-` and then `inf` or a number.
unfoldable pub exact : List ℕ → Exact
exact [] = refused
exact (b ∷ bs) =
    elim (same (b ∷ bs) (bytes "NaN")) [
      | true ↦ notANumber
      | false ↦ elim (eqb b minus) [ true ↦ magnitude_of true bs | false ↦ magnitude_of false (b ∷ bs) ]
    ]

-- ---- which pattern is the nearest to a fraction

-- The pattern of the positive infinity: all ones, then zeros.
unfoldable pub infinity : Width → ℕ
infinity w = all_ones w * 2 ^ w.S

-- The top rule: the largest pattern that a fraction reads as is the infinity. It counts as the number that would come next, so a fraction reads
-- as the infinity from half a step above the largest finite number on.
unfoldable pub top : Width → ℕ
top w = infinity w

-- A pattern's magnitude, as a number over 2^off.
unfoldable pub worth : Width → ℕ → ℕ
worth w v = (magnitude w v).f * 2 ^ (magnitude w v).exp

-- How far two numbers are apart.
unfoldable pub apart : ℕ → ℕ → ℕ
apart a b = (a - b) + (b - a)

-- How far n / d is from a pattern's magnitude, times d * 2^off.
unfoldable pub miss : Width → ℕ → ℕ → ℕ → ℕ
miss w n d v = apart (n * 2 ^ off w) (worth w v * d)

-- v is the nearest to n / d of all patterns without a sign up to the top; where another is as near, v's significand is even.
pub record IsNearest (w : Width) (n d v : ℕ) : Type 0 where
  pub inside : v ≤ top w
  pub nearest : (u : ℕ) → u ≤ top w → miss w n d v ≤ miss w n d u
  pub even : (u : ℕ) → u ≤ top w → (u ≡ v → ⊥) → miss w n d v ≡ miss w n d u → significand w v % 2 ≡ 0

-- The smallest positive magnitude is 2^-low.
unfoldable pub low : Width → ℕ
low w = w.bias + w.S - 1

-- The nearest pattern if there were no top. In units of the smallest magnitude the fraction's whole part keeps its first S + 1 binary digits
-- and drops k, and the fraction is rounded once at that place, ties to even. The hidden bit adds one to the exponent's field, and so does a carry.
unfoldable pub unbounded : Width → ℕ → ℕ → ℕ
unbounded w n d =
    let units = n * 2 ^ low w in
    let k = size (units / d) - suc w.S in
    k * 2 ^ w.S + closest units (d * 2 ^ k)

-- The nearest pattern to n / d.
unfoldable pub nearest : Width → ℕ → ℕ → ℕ
nearest w n d = min (top w) (unbounded w n d)

-- A pattern with a sign. A zero has one too.
unfoldable pub with_sign : Width → Bool → ℕ → ℕ
with_sign w true v = 2 ^ (w.bits - 1) + v
with_sign w false v = v

-- The text t reads as the pattern v.
pub record ReadsAs (w : Width) (t : List ℕ) (v : ℕ) : Type 0 where
  pub sign : Bool
  pub n : ℕ
  pub d : ℕ
  pub says : exact t ≡ number sign n d
  pub positive : 0 < d
  pub pattern : v ≡ with_sign w sign (nearest w n d)
