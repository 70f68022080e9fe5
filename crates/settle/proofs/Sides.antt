-- How a decimal number stands to the midpoint above a pattern, told by whole numbers that have no ten in common. Assumes nothing.
use mathlib.Core.Path.{◌≡◌, refl, ap}
use Prim.Native.Nat.{ℕ, zero, suc, ◌+◌, ◌-◌, ◌*◌, ◌^◌, ◌≤◌, ◌<◌}
use native.Mathlib.Nat.{pow-succ', mul-lt-mul_of_pos_right}
use native.Mathlib.Omega.{arith}
use lib.Pow.{pow-add}
use Rattle.laws.proofs.Powers.{ten_pos}
use Rattle.rules.specs.Width.{Width}
use Rattle.rules.specs.Reading.{low}
use Rattle.std.specs.declared.cmp.Ordering.{Ordering}
use Rattle.std.specs.declared.cmp.Ordering.TheVariants.{Less, Equal, Greater}
use Rattle.limbs.specs.Stands.{Stands}
use Rattle.closest.specs.declared.Target.{Target}
use Rattle.closest.specs.Targets.{Targets}
use Rattle.settle.specs.Settles.{Middle, Side}

-- Two numbers stand alike when both are multiplied.
pub stands_times : (o : Ordering) (x y c : ℕ) → 0 < c → Stands o x y → Stands o (x * c) (y * c)
stands_times Less x y c some h = mul-lt-mul_of_pos_right h some
stands_times Equal x y c some h = ap (λ (n : ℕ). n * c) h
stands_times Greater x y c some h = mul-lt-mul_of_pos_right h some

-- They stand as two that are equal to them.
pub stands_same : (o : Ordering) {x y u v : ℕ} → x ≡ u → y ≡ v → Stands o x y → Stands o u v
stands_same o p q h = rw (← p, ← q) h

-- A power of ten is as many fives and twos.
ten_parts : (n : ℕ) → 10 ^ n ≡ 5 ^ n * 2 ^ n
ten_parts zero = refl
ten_parts (suc n) = rw (pow-succ' 10 n, pow-succ' 5 n, pow-succ' 2 n, ten_parts n) (omega arith)

-- The number a * 10^up / 10^down, twice, in units of 2^-low, and a midpoint of m * 2^k units.
module _ (o : Ordering) (a m k n l up down : ℕ) where
  -- Where the power of ten is not below zero, its fives and twos stand at the digits.
  pub fives_up : up ≡ n + down → Stands o (a * 5 ^ n * 2 ^ (n + (l + 1))) (m * 5 ^ 0 * 2 ^ k) → Stands o (2 * (a * 10 ^ up * 2 ^ l)) (m * 2 ^ k * 10 ^ down)
  fives_up is h =
      let left : a * 5 ^ n * 2 ^ (n + (l + 1)) * 10 ^ down ≡ 2 * (a * 10 ^ up * 2 ^ l) =
      rw (is, pow-add 10 n down, ten_parts n, pow-add 2 n (l + 1), pow-add 2 l 1) (omega arith) in
      let right : m * 5 ^ 0 * 2 ^ k * 10 ^ down ≡ m * 2 ^ k * 10 ^ down = omega arith in
      stands_same o left right (stands_times o (a * 5 ^ n * 2 ^ (n + (l + 1))) (m * 5 ^ 0 * 2 ^ k) (10 ^ down) (ten_pos down) h)

  -- Where it is, they stand at the midpoint.
  pub fives_down : down ≡ n + up → Stands o (a * 5 ^ 0 * 2 ^ (l + 1)) (m * 5 ^ n * 2 ^ (n + k)) → Stands o (2 * (a * 10 ^ up * 2 ^ l)) (m * 2 ^ k * 10 ^ down)
  fives_down is h =
      let left : a * 5 ^ 0 * 2 ^ (l + 1) * 10 ^ up ≡ 2 * (a * 10 ^ up * 2 ^ l) = rw (pow-add 2 l 1) (omega arith) in
      let right : m * 5 ^ n * 2 ^ (n + k) * 10 ^ up ≡ m * 2 ^ k * 10 ^ down =
      rw (is, pow-add 10 n up, ten_parts n, pow-add 2 n k) (omega arith) in
      stands_same o left right (stands_times o (a * 5 ^ 0 * 2 ^ (l + 1)) (m * 5 ^ n * 2 ^ (n + k)) (10 ^ up) (ten_pos up) h)

-- The same with the unit's twos and the midpoint as a target has them.
module _ (t : Target) (o : Ordering) (a tens p m k : ℕ) (middle : Middle t p m k) where
  unit_is : (w : Width) → Targets t w → 1201 - t.base ≡ low w + 1
  unit_is w is = omega (arith, is.base)

  pub above_unit : 10100 ≤ tens →
      Stands o (a * 5 ^ (tens - 10100) * 2 ^ (tens - 10100 + (1201 - t.base))) (m * 5 ^ 0 * 2 ^ k) → (w : Width) → Targets t w → Side w a tens p o
  above_unit more h w is up down at =
      let n = tens - 10100 in
      let unit = unit_is w is in
      rw (middle.is w is) (fives_up o a m k n (low w) up down (omega arith) (rw unit at h))

  pub below_unit : tens < 10100 →
      Stands o (a * 5 ^ 0 * 2 ^ (1201 - t.base)) (m * 5 ^ (10100 - tens) * 2 ^ (10100 - tens + k)) → (w : Width) → Targets t w → Side w a tens p o
  below_unit less h w is up down at =
      let n = 10100 - tens in
      let unit = unit_is w is in
      rw (middle.is w is) (fives_down o a m k n (low w) up down (omega arith) (rw unit at h))
