-- What is read of a text's digits at once. Assumes nothing.
use Rattle.std.specs.Prelude.{◌≡◌, List, ℕ, ◌+◌, ◌*◌, ◌≤◌, ◌<◌, length}
use Rattle.scan.specs.Mantissa.{mantissa}
use Rattle.scan.specs.Passes.{Ends}

-- From here up a power of ten is full: 32 bits do not hold ten times as much.
abbrev pub full : ℕ
full = 400000000

-- The digits between the text t and its rest u make a number, and `power` has a 0 for each. It is full, or the digits end there.
pub record Chunked (t : List ℕ) (number power : ℕ) (u : List ℕ) : Type 0 where
  pub ends : Ends t u
  pub reads : (a : ℕ) → mantissa a t ≡ mantissa (a * power + number) u
  pub ahead : full ≤ power → length u < length t
  pub stops : power < full → (a : ℕ) → mantissa a u ≡ a
