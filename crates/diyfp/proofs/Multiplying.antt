-- The product of two pairs: the significands', rounded, and the exponents' sum. Assumes nothing.
use mathlib.Core.Path.{◌≡◌, sym, ap, ◌∙◌}
use Prim.Native.Nat.{ℕ, suc, ◌+◌, ◌-◌, ◌*◌, ◌/◌, ◌%◌, ◌^◌, ◌≤◌, ◌<◌}
use native.Mathlib.Nat.{add-mul, mod-eq_of_lt, mul_assoc, mul-div-mul_right, mul-lt-mul_of_pos_right}
use native.Mathlib.Omega.{arith}
use lib.IntN.{ℤ, pos, negsuc, ◌+ℤ◌}
use lib.Pow.{pow_pos, pow-add}
use mir.Syntax.{w32}
use mir.Val.{SFits}
use Rattle.laws.proofs.Differences as differences
use Rattle.laws.proofs.Differences.{is_pos, is_negsuc}
use Rattle.laws.proofs.Signed.{read, Is, held, sum, more}
use Rattle.rules.specs.Width.{Width}
use Rattle.rules.specs.Product.{product}
use Rattle.theorems.proofs.Product.{dropped_nothing}
use Rattle.diyfp.specs.Pairs.{Near}

-- With g at the upper end of a word of 64 bits, the upper word of the product, rounded, is the rules' product.
pub product_is : (w : Width) → w.dropped < w.N → w.N ≤ 64 → (f g : ℕ) → g < 2 ^ w.N → (f * (g * 2 ^ (64 - w.N) % 2 ^ 64) + 2 ^ 63) / 2 ^ 64 ≡ product w f g
product_is w dropped word f g low =
    let k = 64 - w.N in
    let all : 64 ≡ w.N + k = omega arith in
    let less : 63 ≡ w.N - 1 + k = omega (arith, dropped) in
    let whole : 2 ^ 64 ≡ 2 ^ w.N * 2 ^ k = ap (λ (e : ℕ). 2 ^ e) all ∙ pow-add 2 w.N k in
    let half : 2 ^ 63 ≡ 2 ^ (w.N - 1) * 2 ^ k = ap (λ (e : ℕ). 2 ^ e) less ∙ pow-add 2 (w.N - 1) k in
    let fits : g * 2 ^ k < 2 ^ 64 = rw whole (mul-lt-mul_of_pos_right low (pow_pos k)) in
    rw (mod-eq_of_lt fits, half, whole, dropped_nothing w f g dropped, ← mul_assoc, ← add-mul)
    (mul-div-mul_right (f * g + 2 ^ (w.N - 1)) (2 ^ w.N) (pow_pos k))

-- An exponent near zero, as a difference.
record Differs (z : ℤ) : Type 0 where
  above : ℕ
  under : ℕ
  is : Is z above under
  few : (above ≤ 2 ^ 13) × (under ≤ 2 ^ 13)

differs : (z : ℤ) → Near z → Differs z
differs (pos n) near = record { above = n; under = 0; is = record { is = is_pos n n 0 (omega arith) }; few = omega arith }
differs (negsuc n) near = record { above = 0; under = suc n; is = record { is = is_negsuc n 0 (suc n) (omega arith) }; few = omega arith }

-- The sum of two exponents and n, in two steps that an i32 holds.
pub record Sum (e d : ℤ) (n : ℕ) : Type 0 where
  pub once : SFits w32 (read e +ℤ read d)
  pub twice : SFits w32 (read (read e +ℤ read d) +ℤ pos n)
  pub whole : read (read (read e +ℤ read d) +ℤ pos n) ≡ e +ℤ d +ℤ pos n

-- Exponents near zero have such a sum.
pub sums : {e d : ℤ} (n : ℕ) → n ≤ 2 ^ 13 → Near e → Near d → Sum e d n
sums {e} {d} n small p q = told (differs e p) (differs d q)
  where
    told : Differs e → Differs d → Sum e d n
    told a b =
        let first = sum (held a.is (omega (arith, a.few))).back (held b.is (omega (arith, b.few))).back (omega (arith, a.few, b.few)) in
        let second = more n first.back (omega (arith, a.few, b.few)) in
        record {
          once = first.fits;
          twice = second.fits;
          whole =
              second.back.is
              ∙ sym (rw (a.is.is, b.is.is, differences.add) (differences.more (a.above + b.above) (a.under + b.under) n));
        }
