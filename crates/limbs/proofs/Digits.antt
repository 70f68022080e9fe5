-- What the bytes of a text add to the number that its digits make. Assumes nothing.
use mathlib.Core.Path.{◌≡◌, refl}
use mathlib.Core.List.{List, [], ◌∷◌}
use Prim.Native.Nat.{ℕ, suc, ◌+◌, ◌-◌, ◌*◌, ◌^◌, ◌≤◌, ◌<◌}
use native.Mathlib.Nat.{mul-suc, mul-le-mul_left, mul-le-mul_right}
use native.Mathlib.Omega.{arith}
use lib.Dec.{leb, ltb, eqb, le→leb, leb→le, lt→ltb, ltb→lt, eqb→eq}
use lib.ListN.{length}
use lib.Pow.{pow-add, pow_pos}
use Rattle.laws.proofs.Branches.{either, taken, and_both, and_left, and_right}
use Rattle.rules.specs.Bytes.{point}
use Rattle.rules.specs.Reading.{is_digit, extended}
use Rattle.scan.specs.Mantissa.{mantissa}

-- More digits make no smaller number.
pub grows : (a : ℕ) (t : List ℕ) → a ≤ mantissa a t
unfolding mantissa extended
grows a [] = omega arith
grows a (b ∷ bs) =
    either (λ (n : ℕ). a ≤ n) (is_digit b) (λ _. omega (arith, grows (extended a b) bs))
    (λ _. either (λ (n : ℕ). a ≤ n) (eqb b point) (λ _. grows a bs) (λ _. omega arith))

-- A digit is put behind.
pub digit : (a b : ℕ) (bs : List ℕ) → 48 ≤ b → b ≤ 57 → mantissa a (b ∷ bs) ≡ mantissa (a * 10 + (b - 48)) bs
unfolding mantissa is_digit extended
digit a b bs least most = taken _ (is_digit b) (and_both (leb 48 b) (ltb b 58) (le→leb 48 b least) (lt→ltb b 58 (omega arith))) refl

-- A point is passed.
pub at_point : (a b : ℕ) (bs : List ℕ) → b ≡ 46 → mantissa a (b ∷ bs) ≡ mantissa a bs
unfolding mantissa is_digit
at_point a b bs e = rw e

-- Any other byte ends the digits.
pub past_end : (a b : ℕ) (bs : List ℕ) → (48 ≤ b → b ≤ 57 → ⊥) → (b ≡ 46 → ⊥) → mantissa a (b ∷ bs) ≡ a
unfolding mantissa is_digit
past_end a b bs no_digit no_point =
    either (λ (n : ℕ). n ≡ a) (is_digit b)
    (λ t. absurd (no_digit (leb→le 48 b (and_left (leb 48 b) (ltb b 58) t)) (omega (arith, ltb→lt b 58 (and_right (leb 48 b) (ltb b 58) t)))))
    (λ _. either (λ (n : ℕ). n ≡ a) (eqb b point) (λ t. absurd (no_point (eqb→eq b 46 t))) (λ _. refl))

-- A byte adds four bits at most.
digits_bits : (a : ℕ) (t : List ℕ) → mantissa a t < suc a * 2 ^ (4 * length t)
unfolding mantissa is_digit extended
digits_bits a [] = omega arith
digits_bits a (b ∷ bs) =
    let w = 2 ^ (4 * length bs) in
    let some : 1 ≤ w = pow_pos (4 * length bs) in
    rw (mul-suc, pow-add)
    (either (λ (n : ℕ). n < suc a * (w * 16)) (is_digit b)
    (λ t.
    let least : suc (extended a b) ≤ suc a * 16 = omega (arith, ltb→lt b 58 (and_right (leb 48 b) (ltb b 58) t)) in
    omega (arith, digits_bits (extended a b) bs, mul-le-mul_right w least))
    (λ _.
    either (λ (n : ℕ). n < suc a * (w * 16)) (eqb b point) (λ _. omega (arith, digits_bits a bs))
    (λ _. omega (arith, mul-le-mul_left (suc a) some))))

pub digits_width : (t : List ℕ) → mantissa 0 t < 2 ^ (4 * length t)
digits_width t = omega (arith, digits_bits 0 t)
