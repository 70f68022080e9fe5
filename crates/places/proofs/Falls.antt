-- The falls of the last digit, counted one at a time. Assumes nothing.
use mathlib.Core.Bool.{true, false}
use mathlib.Core.Path.{◌≡◌, refl, sym, ap, subst}
use Prim.Native.Nat.{ℕ, zero, suc, ◌+◌, ◌-◌, ◌*◌, ◌≤◌, ◌<◌}
use native.Mathlib.Nat.{lt_of_mul-lt-mul_right}
use native.Mathlib.Omega.{arith}
use lib.Dec.{T}
use Rattle.rules.specs.Digits.{Place, closer, falls}
use Rattle.theorems.proofs.Places.{closer_within}
use Rattle.places.specs.Places.{measure}

-- The falls go by unit, room and distance alone.
pub measured : (f : Place) (fuel rest : ℕ) → falls (measure f.unit f.room f.distance) fuel rest ≡ falls f fuel rest
unfolding falls closer
measured f zero rest = refl
measured f (suc fuel) rest = ap (λ (n : ℕ). elim (closer f rest) as (λ _. ℕ) [ true ↦ suc n | false ↦ 0 ]) (measured f fuel (rest + f.unit))

fell : (f : Place) (fuel rest : ℕ) → closer f rest ≡ true → falls f (suc fuel) rest ≡ suc (falls f fuel (rest + f.unit))
unfolding falls
fell f fuel rest e = rw (e, falls)

stayed : (f : Place) (fuel rest : ℕ) → closer f rest ≡ false → falls f fuel rest ≡ 0
unfolding falls
stayed f zero rest e = refl
stayed f (suc fuel) rest e = rw (e, falls)

-- After n falls the rest is `at`, and the falls from there on are the others.
pub record Falling (f : Place) (rest n at : ℕ) : Type 0 where
  pub at_is : at ≡ rest + n * f.unit
  pub within : at ≤ f.room
  pub others : n + falls f (10 - n) at ≡ falls f 10 rest

pub falling : (f : Place) (rest : ℕ) → rest ≤ f.room → Falling f rest 0 rest
falling f rest h = record { at_is = omega arith; within = h; others = omega arith }

pub settled : {f : Place} {rest n at : ℕ} → Falling f rest n at → closer f at ≡ false → n ≡ falls f 10 rest
settled {f} {rest} {n} {at} so e = omega (arith, so.others, stayed f (10 - n) at e)

module _ {f : Place} {rest n at : ℕ} (few : f.room < rest + 10 * f.unit) (so : Falling f rest n at) (e : closer f at ≡ true) where
  -- One fall more stays within the room.
  pub room_left : at + f.unit ≤ f.room
  room_left = omega (arith, closer_within f at (subst T (sym e) tt), so.within)

  -- There are no ten.
  pub not_ten : n + 1 < 10
  not_ten = lt_of_mul-lt-mul_right f.unit (omega (arith, room_left, so.at_is))

  pub fall_more : Falling f rest (n + 1) (at + f.unit)
  fall_more =
      let fuel : 10 - n ≡ suc (10 - (n + 1)) = omega (arith, not_ten) in
      record {
        at_is = omega (arith, so.at_is);
        within = room_left;
        others = omega (arith, so.others, fell f (10 - (n + 1)) at e, ap (λ (m : ℕ). falls f m at) fuel);
      }

-- At an equal distance the digit stays: 0 and 2 are equally far from 1.
pub not_at_equal_distance : closer (measure 2 2 1) 0 ≡ true → ⊥
unfolding closer
not_at_equal_distance e = subst T (sym e) tt
