-- What is known of a number whose digits make a, the last of them at the place of 10^(tens - 10100). Assumes nothing.
use Rattle.std.specs.Prelude.{ℕ, ◌+◌, ◌*◌, ◌^◌, ◌≤◌, ◌≡◌}
use Rattle.rules.specs.Width.{Width}
use Rattle.rules.specs.Reading.{low, nearest}
use Rattle.theorems.proofs.Halfway.{midpoint}
use Rattle.std.specs.declared.cmp.Ordering.{Ordering}
use Rattle.limbs.specs.Stands.{Stands}
use Rattle.closest.specs.declared.Target.{Target}
use Rattle.closest.specs.Targets.{Targets}

-- The midpoint above the pattern p, twice, is m * 2^k units.
pub record Middle (t : Target) (p m k : ℕ) : Type 0 where
  pub is : (w : Width) → Targets t w → midpoint w p ≡ m * 2 ^ k
  pub few : k ≤ 2046

-- How the number stands to the midpoint above p.
abbrev pub Side : Width → ℕ → ℕ → ℕ → Ordering → Type 0
Side w a tens p o = (up down : ℕ) → tens + down ≡ 10100 + up → Stands o (2 * (a * 10 ^ up * 2 ^ low w)) (midpoint w p * 10 ^ down)

-- What the number reads as has a property, if it is one of the patterns from `least` to `most`.
abbrev pub Reading : Width → ℕ → ℕ → ℕ → ℕ → (ℕ → Type 0) → Type 0
Reading w a tens least most P =
    (up down : ℕ) → tens + down ≡ 10100 + up → least ≤ nearest w (a * 10 ^ up) (10 ^ down) → nearest w (a * 10 ^ up) (10 ^ down) ≤ most →
    P (nearest w (a * 10 ^ up) (10 ^ down))

-- It is r.
abbrev pub Settles : Width → ℕ → ℕ → ℕ → ℕ → ℕ → Type 0
Settles w a tens least most r = Reading w a tens least most (λ n. r ≡ n)
