-- How few the digits and the places are: where H is below 10^q * D, at most q + 1 digits and q places below zero. Assumes nothing.
use Prim.Native.Nat.{ℕ, suc, ◌*◌, ◌^◌, ◌≤◌, ◌<◌}
use mathlib.Core.Logic.{⊎_elim}
use mathlib.Core.Path.{◌≡◌, ap, ◌∙◌}
use native.Mathlib.Nat.{div-lt_iff_lt-mul, le_of_lt, lt_of_mul-lt-mul_right, mul-le-mul_left, mul-lt-mul_of_pos_right, one-mul, pow-le-pow_right, pow-succ', zero-lt-suc}
use native.Mathlib.Omega.{arith}
use lib.Pow.{pow_pos}
use Rattle.laws.proofs.Branches.{which}
use Rattle.laws.proofs.Powers.{ten_pos}
use Rattle.rules.specs.Numbers.{count}
use Rattle.rules.specs.Scaled.{Scaled, D}
use Rattle.rules.specs.Digits.{c, first}
use Rattle.theorems.proofs.Counting.{count_least, count_pos}
use Rattle.theorems.proofs.Places.{first_taken, room_less}

-- There is a place at or above zero.
pub c_least : (b : Scaled) → 0 < c b
unfolding c
c_least b = count_pos _

-- There are no more of them than H has digits before the point.
pub c_most : (b : Scaled) (k : ℕ) → b.H < 10 ^ suc k * 2 ^ b.x → c b ≤ suc k
unfolding c
c_most b k h = count_least _ k ((div-lt_iff_lt-mul (pow_pos b.x)).1 h)

module _ (b : Scaled) (apart : b.L < b.H) where
  -- The place taken is no higher than the first that is tried.
  pub up_most : (k : ℕ) → b.H < 10 ^ suc k * 2 ^ b.x → (first b).up ≤ k
  up_most k h = omega (arith, (first_taken b apart).up_less, c_most b k h)

  module _ (q : ℕ) (relative : b.H < 10 ^ q * D b) where
    narrow : b.H * 10 ^ (first b).down < 10 ^ suc q * (first b).unit
    narrow =
        let taken = first_taken b apart in
        omega (
          arith,
          mul-lt-mul_of_pos_right relative (ten_pos (first b).down),
          mul-le-mul_left (10 ^ q) (le_of_lt (room_less taken)),
          ap (λ (z : ℕ). 10 ^ q * z) taken.fits.room,
          ap (λ (z : ℕ). z * (first b).unit) (pow-succ' 10 q),
        )

    -- The digits are below 10^(q + 1).
    pub digits_few : (first b).digits < 10 ^ suc q
    digits_few = lt_of_mul-lt-mul_right (first b).unit (omega (arith, narrow, (first_taken b apart).fits.sum))

    -- There are at most q + 1 of them.
    pub count_few : count (first b).digits ≤ suc q
    count_few = count_least (first b).digits q digits_few

    -- The place taken is no further than q below zero, where H is at least one.
    pub down_most : 2 ^ b.x ≤ b.H → (first b).down ≤ q
    down_most whole = ⊎_elim (λ e. at_point (unit e)) (λ e. omega arith) (first_taken b apart).one_sided
      where
        unit : (first b).up ≡ 0 → (first b).unit ≡ 2 ^ b.x
        unit e = (first_taken b apart).fits.unit ∙ ap (λ (z : ℕ). 10 ^ z * 2 ^ b.x) e ∙ one-mul (2 ^ b.x)

        at_point : (first b).unit ≡ 2 ^ b.x → (first b).down ≤ q
        at_point e =
            ⊎_elim (λ less. omega arith)
            (λ more.
            absurd
            (omega (
              arith,
              narrow,
              ap (λ (z : ℕ). 10 ^ suc q * z) e,
              mul-le-mul_left (10 ^ suc q) whole,
              mul-le-mul_left b.H (pow-le-pow_right {n = 10} (zero-lt-suc 9) more),
            ))) (which (first b).down (suc q))
