-- The falls change the last digit alone and end by themselves; room and distance stay below ten units. Assumes nothing.
use Prim.Native.Nat.{ℕ, zero, suc, ◌+◌, ◌-◌, ◌*◌, ◌/◌, ◌%◌, ◌^◌, ◌≤◌, ◌<◌}
use mathlib.Core.Bool.{true, false}
use mathlib.Core.Path.{◌≡◌}
use native.Mathlib.Nat.{add-zero, le_of_lt, le_of_mul-le-mul_right, lt_of_mul-lt-mul_right, mul-le-mul_right, mul-pos, zero-mul}
use native.Mathlib.Omega.{arith}
use Rattle.laws.proofs.Branches.{either, is_true, is_false}
use Rattle.laws.proofs.Powers.{ten_pos}
use Rattle.rules.specs.Scaled.{Scaled, D}
use Rattle.rules.specs.Digits.{Place, first, closer, falls}
use Rattle.theorems.proofs.Places.{between, D_between, fallen, falls_within, first_taken, room_less, unit_pos}

once_more : (f : Place) (rest i : ℕ) → rest + f.unit + i * f.unit ≡ rest + suc i * f.unit
once_more f rest i = omega arith

-- Each fall is one that the rest before it calls for.
pub falls_go_on : (f : Place) (fuel rest i : ℕ) → i < falls f fuel rest → closer f (rest + i * f.unit) ≡ true
unfolding falls
falls_go_on f zero rest i = λ h. absurd (omega arith)
falls_go_on f (suc fuel) rest zero =
    either (λ (n : ℕ). 0 < n → closer f (rest + 0 * f.unit) ≡ true) (closer f rest)
    (λ t h. rw (zero-mul, add-zero) (is_true (closer f rest) t)) (λ t h. absurd (omega arith))
falls_go_on f (suc fuel) rest (suc i) =
    either (λ (n : ℕ). suc i < n → closer f (rest + suc i * f.unit) ≡ true) (closer f rest)
    (λ t h. rw (← once_more) (falls_go_on f fuel (rest + f.unit) i (omega arith))) (λ t h. absurd (omega arith))

-- Falls that do not use up the fuel end by themselves.
pub falls_end : (f : Place) (fuel rest : ℕ) → falls f fuel rest < fuel → closer f (rest + falls f fuel rest * f.unit) ≡ false
unfolding falls
falls_end f zero rest = λ h. absurd (omega arith)
falls_end f (suc fuel) rest =
    either (λ (n : ℕ). n < suc fuel → closer f (rest + n * f.unit) ≡ false) (closer f rest)
    (λ t h. rw (← once_more) (falls_end f fuel (rest + f.unit) (omega arith)))
    (λ t h. rw (zero-mul, add-zero) (is_false (closer f rest) t))

-- The falls at a place: no more than the last digit, each one called for, and after them none.
pub record Settled (f : Place) : Type 0 where
  pub most : fallen f ≤ f.digits % 10
  pub others : (f.digits - fallen f) / 10 ≡ f.digits / 10
  pub each : (i : ℕ) → i < fallen f → closer f (f.rest + i * f.unit) ≡ true
  pub ended : closer f (f.rest + fallen f * f.unit) ≡ false

module _ (b : Scaled) (apart : b.L < b.H) where
  -- The last digit never falls below zero, and no other changes.
  pub first_settled : Settled (first b)
  first_settled =
      record {
        most = most;
        others = omega (arith, most);
        each = falls_go_on (first b) 10 (first b).rest;
        ended = falls_end (first b) 10 (first b).rest (omega (arith, most));
      }
    where
      most : fallen (first b) ≤ (first b).digits % 10
      most =
          let taken = first_taken b apart in
          le_of_mul-le-mul_right {k = (first b).unit}
          (omega (arith, taken.before, falls_within (first b) 10 (first b).rest taken.fits.passes))
          (unit_pos taken.fits)

  -- The room is no more than ten units, at whichever place.
  pub room_most : (first b).room ≤ 10 * (first b).unit
  room_most = le_of_lt (room_less (first_taken b apart))

  -- Nor is the distance of H from the value, brought to the place.
  pub distance_most : b.L ≤ b.W → (b.H - b.W) * 10 ^ (first b).down ≤ 10 * (first b).unit
  distance_most above =
      let within : b.H - b.W ≤ D b = omega (arith, D_between b apart) in
      omega (arith, room_most, (first_taken b apart).fits.room, mul-le-mul_right (10 ^ (first b).down) within)

  -- The number printed is above zero where the lower bound is.
  pub printed_pos : 0 < b.L → 0 < (first b).digits - fallen (first b)
  printed_pos some =
      lt_of_mul-lt-mul_right (10 ^ (first b).up * 2 ^ b.x)
      (omega (arith, mul-pos some (ten_pos (first b).down), (between b apart).least))
