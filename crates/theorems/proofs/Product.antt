-- A product lies within half a unit of the exact quotient, whatever is dropped first; with a table's entry, within one unit. Assumes nothing.
use mathlib.Core.Path.{◌≡◌, ap, ◌∙◌}
use Prim.Native.Nat.{ℕ, ◌+◌, ◌-◌, ◌*◌, ◌/◌, ◌^◌, ◌≤◌, ◌<◌}
use native.Mathlib.Nat.{div-mul-le_self, lt-div-mul-add, div-div-eq-div-mul, add-mul-div_right, mul-div_cancel, le_of_mul-le-mul_right, mul-le-mul_left, mul-le-mul_right, mul-lt-mul_of_pos_right}
use native.Mathlib.Omega.{arith}
use lib.Pow.{pow_pos, pow-add}
use Rattle.laws.proofs.Powers.{two_halves}
use Rattle.rules.specs.Width.{Width}
use Rattle.rules.specs.Product.{product}
use Rattle.rules.proofs.Table.{HalfUnit}

-- Where h and b are multiples of g, what is below g counts for nothing.
below_unit : (p g h b : ℕ) → 0 < g → (p / g * g + h * g) / (g * b) ≡ (p + h * g) / (g * b)
below_unit p g h b some = simp (← div-div-eq-div-mul, add-mul-div_right, mul-div_cancel)

-- The part that is dropped first never changes a product.
pub dropped_nothing : (w : Width) (a c : ℕ) → w.dropped < w.N → product w a c ≡ (a * c + 2 ^ (w.N - 1)) / 2 ^ w.N
unfolding product
dropped_nothing w a c less =
    let g = w.dropped in
    let half : 2 ^ (w.N - 1) ≡ 2 ^ (w.N - 1 - g) * 2 ^ g = ap (λ (e : ℕ). 2 ^ e) (omega arith) ∙ pow-add 2 (w.N - 1 - g) g in
    let whole : 2 ^ w.N ≡ 2 ^ g * 2 ^ (w.N - g) = ap (λ (e : ℕ). 2 ^ e) (omega arith) ∙ pow-add 2 g (w.N - g) in
    rw (half, whole) (below_unit (a * c) (2 ^ g) (2 ^ (w.N - 1 - g)) (2 ^ (w.N - g)) (pow_pos g))

-- Half of b added before the division rounds to the nearest.
rounded : (p h b : ℕ) → b ≡ 2 * h → 0 < b → HalfUnit ((p + h) / b) p b
rounded p h b e some = omega (arith, div-mul-le_self (p + h) b, lt-div-mul-add {a = p + h} some)

-- A product lies within half a unit of the exact quotient.
pub product_half : (w : Width) (a c : ℕ) → w.dropped < w.N → HalfUnit (product w a c) (a * c) (2 ^ w.N)
product_half w a c less =
    rw (dropped_nothing w a c less) (rounded (a * c) (2 ^ (w.N - 1)) (2 ^ w.N) (two_halves w.N (omega arith)) (pow_pos w.N))

-- The number q lies within one unit of num / den, strictly.
pub record OneUnit (q num den : ℕ) : Type 0 where
  pub above : q * den < num + den
  pub under : num < q * den + den

-- Two halves of a unit: c is off by half a unit, and the quotient u * c / b, with u below b, by half a unit more.
pub one_unit : {c num den q u b : ℕ} → HalfUnit c num den → HalfUnit q (u * c) b → u < b → 0 < den → OneUnit q (u * num) (b * den)
one_unit {c} {num} {den} {q} {u} {b} t r less some =
    omega (
      arith,
      mul-le-mul_right den r.above,
      mul-le-mul_right den r.under,
      mul-le-mul_left u t.above,
      mul-le-mul_left u t.under,
      mul-lt-mul_of_pos_right less some,
    )

-- A product by a significand that fills its N bits is no larger than that.
pub product_most : (w : Width) (a c : ℕ) → w.dropped < w.N → a < 2 ^ w.N → 2 ^ w.N ≤ 2 * c → product w a c ≤ c
product_most w a c less fits top =
    le_of_mul-le-mul_right (omega (arith, mul-le-mul_right c fits, (product_half w a c less).above)) (pow_pos w.N)
