-- What is kept of a long number: its first digits, how many more there are, and whether one of those is not 0. Assumes nothing.
use Rattle.std.specs.Prelude.{◌≡◌, ℕ, ◌+◌, ◌*◌, ◌^◌, ◌<◌, ◌≤◌, Bool, true, false}

-- w is a without its last d digits; `more` says that one of them is not 0. None is left off while w has fewer than 19 digits.
pub record Kept (a w d : ℕ) (more : Bool) : Type 0 where
  pub low : w * 10 ^ d ≤ a
  pub high : a < (w + 1) * 10 ^ d
  pub whole : more ≡ false → a ≡ w * 10 ^ d
  pub above : more ≡ true → w * 10 ^ d < a
  pub small : w < 10 ^ 19
  pub full : 0 < d → 10 ^ 18 ≤ w
