-- What an exponent does to the digits before it. Assumes nothing.
use Rattle.std.specs.Prelude.{◌≡◌, ℕ, ◌+◌, ◌*◌, ◌^◌, ◌<◌, ◌≤◌, Bool, true, false, List, Option, None, Some}
use Rattle.rules.specs.Reading.{Unsigned, no_number, over, powered, exponent_first}

-- Whatever the digits a and the n of them behind the point, f says a / 10^n times 10^up over 10^down; r is up less down, 10,000 added.
pub record Power (f : ℕ → ℕ → Unsigned) (r : ℕ) : Type 0 where
  pub up : ℕ
  pub down : ℕ
  pub is : (a n : ℕ) → f a n ≡ over (a * 10 ^ up) (10 ^ (n + down))
  pub place : r + down ≡ 10000 + up
  pub least : up ≤ 9999
  pub most : down ≤ 9999

-- There is no number, or a power of ten.
abbrev pub Raises : (ℕ → ℕ → Unsigned) → Option ℕ → Type 0
Raises f None = (a n : ℕ) → f a n ≡ no_number
Raises f (Some r) = Power f r

-- An exponent e with its sign, 10,000 added, is r: true stands for a `-`.
abbrev pub Shifts : Bool → ℕ → ℕ → Type 0
Shifts true e r = r + e ≡ 10000
Shifts false e r = r ≡ 10000 + e

-- The digits of an exponent make no number, or e.
abbrev pub Counts : List ℕ → Option ℕ → Type 0
Counts t None = (a n : ℕ) (below : Bool) → exponent_first a n below t ≡ no_number
Counts t (Some e) = (e < 10000) × ((a n : ℕ) (below : Bool) → exponent_first a n below t ≡ powered a n below e)
