-- Digits and their place: zeros taken off the end, and the same number as a product and as a quotient. Assumes nothing.
use mathlib.Core.Logic.{⊎_elim}
use mathlib.Core.Path.{◌≡◌, ap, ◌∙◌}
use Prim.Native.Nat.{ℕ, suc, ◌+◌, ◌-◌, ◌*◌, ◌/◌, ◌%◌, ◌^◌, ◌≤◌, ◌<◌}
use native.Mathlib.Nat.{div-add-mod', pow-suc, mul-le-mul_right, pow-le-pow_right}
use native.Mathlib.Omega.{arith}
use lib.Dec.{lit<}
use lib.Pow.{pow-add}
use Rattle.laws.proofs.Branches.{which}
use Rattle.laws.proofs.Powers.{ten_pos}
use Rattle.rules.specs.Width.{w64}
use Rattle.rules.specs.Reading.{nearest}
use Rattle.theorems.proofs.Order.{nearest-same}
use Rattle.theorems.proofs.Readable.{readable64}
use Rattle.fast.specs.Quick.{Trims}

-- ---- zeros at the end
-- One more zero is taken off.
pub one_off : (digits place t p : ℕ) → Trims digits place t p → t % 10 ≡ 0 → Trims digits place (t / 10) (p + 1)
one_off digits place t p h none =
    let e : t ≡ t / 10 * 10 = omega (arith, div-add-mod' t 10) in
    record {
      zeros = suc h.zeros;
      number = h.number ∙ ap (λ (n : ℕ). n * 10 ^ h.zeros) e ∙ rw (pow-suc 10 h.zeros) (omega arith);
      place_is = omega (arith, h.place_is);
    }

-- A number of 64 bits ends in fewer than 20 zeros.
pub few_off : (digits place t p : ℕ) → Trims digits place t p → 0 < t → digits < 2 ^ 64 → p < place + 20
few_off digits place t p h some fits =
    ⊎_elim (λ (few : h.zeros < 20). omega (arith, h.place_is))
    (λ (many : 20 ≤ h.zeros).
    let least : 10 ^ 20 ≤ 10 ^ h.zeros = pow-le-pow_right (lit< tt) many in
    absurd (omega (arith, h.number, mul-le-mul_right (10 ^ h.zeros) some)))
    (which h.zeros 20)

-- ---- the same number
module _ (digits place up down : ℕ) (at : place + down ≡ 10100 + up) where
  same : (n d : ℕ) → 0 < d → n * 10 ^ down ≡ digits * 10 ^ up * d → nearest w64 n d ≡ nearest w64 (digits * 10 ^ up) (10 ^ down)
  same n d some e = nearest-same w64 readable64 n d (digits * 10 ^ up) (10 ^ down) some (ten_pos down) e

  -- Below the unit's place, a quotient.
  pub as_quotient : place < 10100 → nearest w64 digits (10 ^ (10100 - place)) ≡ nearest w64 (digits * 10 ^ up) (10 ^ down)
  as_quotient less =
      let k = 10100 - place in
      let e : 10 ^ down ≡ 10 ^ up * 10 ^ k = ap (λ (n : ℕ). 10 ^ n) (omega arith) ∙ pow-add 10 up k in
      same digits (10 ^ k) (ten_pos k) (rw e (omega arith))

  -- From there on, a product.
  pub as_product : 10100 ≤ place → nearest w64 (digits * 10 ^ (place - 10100)) 1 ≡ nearest w64 (digits * 10 ^ up) (10 ^ down)
  as_product more =
      let k = place - 10100 in
      let e : 10 ^ up ≡ 10 ^ k * 10 ^ down = ap (λ (n : ℕ). 10 ^ n) (omega arith) ∙ pow-add 10 k down in
      same (digits * 10 ^ k) 1 (lit< tt) (rw e (omega arith))

  -- Digits without zeros at their end are the same number.
  pub trimmed_same : (t p : ℕ) (h : Trims digits place t p) → t * 10 ^ (up + h.zeros) ≡ digits * 10 ^ up
  trimmed_same t p h = rw (pow-add 10 up h.zeros) (omega (arith, ap (λ (n : ℕ). n * 10 ^ up) h.number))
