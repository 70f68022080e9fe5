-- What laying digits out asks. Assumes nothing.
use Rattle.std.specs.Prelude.{ℕ, ◌≤◌, ◌<◌}

-- At least one digit and at most 17, in a buffer with room for their longest text.
pub record Laying (len room : ℕ) : Type 0 where
  pub some : 0 < len
  pub few : len ≤ 17
  pub roomy : 24 ≤ room
