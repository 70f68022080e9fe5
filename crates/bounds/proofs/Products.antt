-- The upper half of the product of shifted digits and a table's entry, and what it says of a number with these digits. Assumes nothing.
use mathlib.Core.Bool.{Bool, true, false}
use mathlib.Core.Path.{◌≡◌, refl, ap, ◌∙◌}
use Prim.Native.Nat.{ℕ, zero, suc, ◌+◌, ◌*◌, ◌/◌, ◌%◌, ◌^◌, ◌≤◌, ◌<◌}
use native.Mathlib.Nat.{le_of_eq, le_of_lt, le-div_iff_mul-le, mod-eq_of_lt, mul-le-mul, mul-le-mul_right}
use native.Mathlib.Omega.{arith}
use lib.Count.{count_leading_zeros}
use lib.Pow.{pow_pos, pow-add}
use Rattle.laws.proofs.Zeros.{fills}
use Rattle.rules.specs.Width.{Width}
use Rattle.rules.specs.Reading.{nearest}
use Rattle.theorems.proofs.Order.{nearest_mono}
use Rattle.theorems.proofs.Readable.{Readable}
use Rattle.scan.specs.Kept.{Kept}
use Rattle.tens.specs.Leading.{Leading, exponent}
use Rattle.bounds.specs.Around.{Opens, Within}
use Rattle.bounds.proofs.Entries.{at_least, at_most, product_least, product_most, product_most_more}

-- The table's binary exponents, with 1200 added, are small.
pub exponent_few : (i : ℕ) → i < 651 → exponent i < 2200
unfolding exponent
exponent_few i inside = omega arith

-- Where a digit is left out that is not 0, 19 were kept.
dropped_long : (a digits d : ℕ) → Kept a digits d true → 10 ^ 18 ≤ digits
dropped_long a digits zero kept = absurd (omega (arith, kept.above refl, kept.high))
dropped_long a digits (suc d) kept = kept.full (omega arith)

-- A sum is no larger than twice a number that takes its place one binary place up.
pub halved : (w : Width) → Readable w → (n h e : ℕ) → n ≤ h * 2 → nearest w (n * 2 ^ e) (2 ^ 1200) ≤ nearest w (h * 2 ^ (e + 1)) (2 ^ 1200)
halved w r n h e more =
    let twice : n * 2 ^ e ≤ h * 2 ^ (e + 1) = rw (pow-add 2 e 1) (omega (arith, mul-le-mul_right (2 ^ e) more)) in
    nearest_mono w r (n * 2 ^ e) (2 ^ 1200) (h * 2 ^ (e + 1)) (2 ^ 1200) (pow_pos 1200) (pow_pos 1200) (mul-le-mul_right (2 ^ 1200) twice)

module _ (digits i x m : ℕ) (some : 0 < digits) (fits : digits < 2 ^ 64) (x_Fits : x < 2 ^ 64) (l : Leading i x)
    (product : m ≡ digits * 2 ^ count_leading_zeros 64 digits % 2 ^ 64 * x / 2 ^ 64) where
  m_is : m ≡ digits * 2 ^ count_leading_zeros 64 digits * x / 2 ^ 64
  m_is = product ∙ ap (λ (n : ℕ). n * x / 2 ^ 64) (mod-eq_of_lt (fills 64 digits some fits).fits)

  -- It has 63 bits or 64.
  pub product_high : 2 ^ 62 ≤ m
  product_high =
      let full : 2 ^ 63 * 2 ^ 63 ≤ digits * 2 ^ count_leading_zeros 64 digits * x = mul-le-mul (fills 64 digits some fits).top l.high in
      rw m_is ((le-div_iff_mul-le (pow_pos 64)).1 full)

  -- The number lies from m units on to as many above as are open.
  pub bounded : (e : ℕ) → e + count_leading_zeros 64 digits ≡ 64 + exponent i → (w : Width) → Readable w → (more : Bool) (far : ℕ) → Opens more far →
      (a d up down : ℕ) → Kept a digits d more → i + down ≡ 342 + (up + d) →
      Within (nearest w (a * 10 ^ up) (10 ^ down)) (nearest w (m * 2 ^ e) (2 ^ 1200)) (nearest w ((m + far) * 2 ^ e) (2 ^ 1200))
  bounded e shift w r more far opens a d up down kept at =
      record {
        above = at_least w r a d up down i x (count_leading_zeros 64 digits) e at shift l digits m kept.low
            (product_least (digits * 2 ^ count_leading_zeros 64 digits) x m m_is);
        below = upper more opens kept;
      }
    where
      upper : (b : Bool) → Opens b far → Kept a digits d b → nearest w (a * 10 ^ up) (10 ^ down) ≤ nearest w ((m + far) * 2 ^ e) (2 ^ 1200)
      upper true opens kept =
          at_most w r a d up down i x (count_leading_zeros 64 digits) e at shift l (digits + 1) (m + far) (le_of_lt kept.high)
          (rw opens (product_most_more digits (count_leading_zeros 64 digits) x m (fills 64 digits some fits).fits x_Fits (dropped_long a digits d kept) m_is))
      upper false opens kept =
          at_most w r a d up down i x (count_leading_zeros 64 digits) e at shift l digits (m + far) (le_of_eq (kept.whole refl))
          (rw opens (product_most (digits * 2 ^ count_leading_zeros 64 digits) x m (fills 64 digits some fits).fits m_is))
