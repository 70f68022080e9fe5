-- A number times a power of five, some fives at a time. Assumes nothing.
use mathlib.Core.Path.{◌≡◌, ap, ◌∙◌}
use mathlib.Core.List.{List}
use Prim.Native.Nat.{ℕ, ◌+◌, ◌-◌, ◌*◌, ◌^◌, ◌≤◌, ◌<◌}
use native.Mathlib.Nat.{mul-le-mul_left, one-le-pow, zero-lt-suc}
use native.Mathlib.Omega.{arith}
use lib.ListN.{length}
use lib.Pow.{pow-add}
use Rattle.limbs.specs.Total.{total, room, Becomes}
use Rattle.limbs.proofs.Low.{same-room}

-- The limbs a, times the fives that are left, are l times n fives.
pub record Toward (l : List ℕ) (n : ℕ) (a : List ℕ) (left : ℕ) : Type 0 where
  pub same : length a ≡ length l
  pub product : total a * 5 ^ left ≡ total l * 5 ^ n

module _ (l : List ℕ) (n : ℕ) (a : List ℕ) (left : ℕ) (t : Toward l n a left) (k : ℕ) (some : k ≤ left) where
  -- Some of the fives that are left, and the others.
  parts : total a * 5 ^ k * 5 ^ (left - k) ≡ total l * 5 ^ n
  parts =
      let split : 5 ^ left ≡ 5 ^ k * 5 ^ (left - k) = ap (λ (e : ℕ). 5 ^ e) (omega arith) ∙ pow-add 5 k (left - k) in
      omega (arith, ap (λ (x : ℕ). total a * x) split, t.product)

  -- They have room.
  pub fits : total l * 5 ^ n < room l → total a * 5 ^ k + 0 < room a
  fits holds =
      let one : 1 ≤ 5 ^ (left - k) = one-le-pow (left - k) 5 (zero-lt-suc 4) in
      omega (arith, parts, mul-le-mul_left (total a * 5 ^ k) one, same-room a l t.same)

  -- After them the others are left.
  pub step : (b : List ℕ) → Becomes a b (total a * 5 ^ k + 0) → Toward l n b (left - k)
  step b done =
      record {
        same = done.same ∙ t.same;
        product = ap (λ (x : ℕ). x * 5 ^ (left - k)) done.is ∙ omega (arith, parts);
      }
