-- Elements put into a list from some place on, in the stead of those that stood there. Assumes nothing.
use Rattle.std.specs.Prelude.{◌≡◌, List, ◌++◌, ℕ, ◌+◌, ◌≤◌, length, take, drop}

-- The list `out` with `t` from the place `at` on; every other element is as before.
unfoldable pub placed : {A : Type 0} → List A → ℕ → List A → List A
placed out at t = take at out ++ (t ++ drop (at + length t) out)

-- `t` was put into `out` at the place `at`, which left `last`, and `next` is the place behind it.
pub record Puts {A : Type 0} (t out : List A) (at : ℕ) (last : List A) (next : ℕ) : Type 0 where
  pub room : at + length t ≤ length out
  pub behind : next ≡ at + length t
  pub elements : last ≡ placed out at t
