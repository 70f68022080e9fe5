-- The upper word of a product of two words, by halves. Assumes nothing.
use mathlib.Core.Path.{◌≡◌, ◌∙◌}
use Prim.Native.Nat.{ℕ, ◌+◌, ◌-◌, ◌*◌, ◌/◌, ◌%◌, ◌^◌, ◌≤◌, ◌<◌}
use native.Mathlib.Nat.{le_of_lt, lt_of_le_of_lt, mul-le-mul_left, mul-le-mul_right}
use native.Mathlib.Omega.{arith}
use lib.Bits.{bit_and, and_mask, mask_lt}
use lib.Dec.{lit<}
use lib.Pow.{pow_pos, pow-add, shl_lt, shr_lt, shr_mono, split}
use Rattle.laws.proofs.Powers.{two_halves}

-- The upper half of a word.
abbrev pub high : ℕ → ℕ
high x = x / 2 ^ 32

-- The lower half of a word.
abbrev pub low : ℕ → ℕ
low x = bit_and x 0xFFFF_FFFF

low_is : (x : ℕ) → low x ≡ x % 2 ^ 32
low_is x = and_mask x 32

-- The column in the middle of the product, with a part r of a unit.
abbrev pub middle : ℕ → ℕ → ℕ → ℕ
middle f g r = high (low f * low g) + low (high f * low g) + low (low f * high g) + r

-- The upper half of the product, to which that column carries.
abbrev pub upper_half : ℕ → ℕ → ℕ → ℕ
upper_half f g r = high f * high g + high (high f * low g) + high (low f * high g) + high (middle f g r)

columns : (a b c d r : ℕ) →
    a * c + a * d / 2 ^ 32 + b * c / 2 ^ 32 + (b * d / 2 ^ 32 + a * d % 2 ^ 32 + b * c % 2 ^ 32 + r) / 2 ^ 32
    ≡ ((a * 2 ^ 32 + b) * (c * 2 ^ 32 + d) + r * 2 ^ 32) / 2 ^ 64
columns a b c d r = omega arith

-- It is that of the whole product and as many parts: with half a unit it is rounded, with none it is cut off.
pub upper_half_lem : (f g r : ℕ) → upper_half f g r ≡ (f * g + r * 2 ^ 32) / 2 ^ 64
upper_half_lem f g r =
    simp low_is
    (columns (f / 2 ^ 32) (f % 2 ^ 32) (g / 2 ^ 32) (g % 2 ^ 32) r ∙ (λ i. (split f 32 i * split g 32 i + r * 2 ^ 32) / 2 ^ 64))

-- A product of two numbers of n bits, and half a unit of its upper half, has at most 2 n bits ..
pub product_fits : (n : ℕ) {f g : ℕ} → 0 < n → f < 2 ^ n → g < 2 ^ n → f * g + 2 ^ (n - 1) < 2 ^ (n + n)
product_fits n {f} {g} some p q =
    rw pow-add (omega (arith, mul-le-mul_left f (le_of_lt q), mul-le-mul_right (2 ^ n) p, two_halves n some, pow_pos (n - 1)))

-- .. and the upper half n.
pub rounded_fits : (n : ℕ) {f g : ℕ} → 0 < n → f < 2 ^ n → g < 2 ^ n → (f * g + 2 ^ (n - 1)) / 2 ^ n < 2 ^ n
rounded_fits n some p q = shr_lt n n (product_fits n some p q)

-- What the product by halves of two words adds up fits a word, with a part r of a unit that is at most half of it.
pub record Halves (f g : ℕ) : Type 0 where
  pub high_high : high f * high g < 2 ^ 64
  pub low_high : low f * high g < 2 ^ 64
  pub high_low : high f * low g < 2 ^ 64
  pub low-low : low f * low g < 2 ^ 64
  pub column : (r : ℕ) → r ≤ 2 ^ 31 → middle f g r < 2 ^ 64
  pub two : high f * high g + high (high f * low g) < 2 ^ 64
  pub three : high f * high g + high (high f * low g) + high (low f * high g) < 2 ^ 64
  pub whole : (r : ℕ) → r ≤ 2 ^ 31 → upper_half f g r < 2 ^ 64

-- Two words are multiplied so.
pub halves : {f g : ℕ} → f < 2 ^ 64 → g < 2 ^ 64 → Halves f g
halves {f} {g} p q =
    record {
      high_high = short (shr_lt 32 32 p) (shr_lt 32 32 q);
      low_high = short (low_short f) (shr_lt 32 32 q);
      high_low = short (shr_lt 32 32 p) (low_short g);
      low-low = short (low_short f) (low_short g);
      column = λ r few. omega (arith, short (low_short f) (low_short g), low_short (high f * low g), low_short (low f * high g));
      two = sooner _ (high (low f * high g)) _ (sooner _ (high (middle f g (2 ^ 31))) _ whole);
      three = sooner _ (high (middle f g (2 ^ 31))) _ whole;
      whole = λ r few. less_carried _ (high (middle f g r)) (high (middle f g (2 ^ 31))) _ (shr_mono 32 (no_more _ r _ few)) whole;
    }
  where
    short : {x y : ℕ} → x < 2 ^ 32 → y < 2 ^ 32 → x * y < 2 ^ 64
    short {x} a b = lt_of_le_of_lt (mul-le-mul_left x (le_of_lt b)) (shl_lt 32 32 a)

    low_short : (x : ℕ) → low x < 2 ^ 32
    low_short x = mask_lt x 32

    sooner : (a b n : ℕ) → a + b < n → a < n
    sooner a b n less = omega arith

    no_more : (a b c : ℕ) → b ≤ c → a + b ≤ a + c
    no_more a b c le = omega arith

    less_carried : (a b c n : ℕ) → b ≤ c → a + c < n → a + b < n
    less_carried a b c n le less = omega arith

    whole : upper_half f g (2 ^ 31) < 2 ^ 64
    whole = rw upper_half_lem (rounded_fits 64 (lit< tt) p q)
