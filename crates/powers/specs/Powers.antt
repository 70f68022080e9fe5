-- What the cached powers of ten are, in the rules' terms. Assumes nothing.
use Rattle.std.specs.Prelude.{◌≡◌, ℕ, ◌+◌, ◌^◌, ◌≤◌, ◌<◌, ℤ}
use Rattle.std.proofs.Math.IntN.{sub_ℕ}
use Rattle.rules.specs.Width.{Width, off}
use Rattle.rules.specs.Pattern.{all_ones}

-- The exponent e is one that the table serves: no larger than any that a finite magnitude's upper boundary has.
pub record Served (w : Width) (e : ℤ) : Type 0 where
  pub raised : ℕ
  pub exponent : e ≡ sub_ℕ raised (off w)
  pub most : raised ≤ all_ones w + w.S

-- A number k that has an index: it is at least -8.
pub record Indexable (k : ℤ) : Type 0 where
  pub raised : ℕ
  pub is : k ≡ sub_ℕ raised 8
  pub few : raised < 2 ^ 13
