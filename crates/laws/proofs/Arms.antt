-- What the last arm of a `match` on the numbers 0, 1, .. knows of a number that is none of them. Assumes nothing.
use mathlib.Core.Path.{◌≡◌}
use Prim.Native.Nat.{ℕ, zero, suc, ◌≤◌, zero-le}
use native.Mathlib.Omega.{arith}

-- The number i is none of 0, .., n - 1, as the arm says it.
abbrev pub Others : ℕ → ℕ → Type 0
Others i zero = Unit
Others i (suc n) = Others i n × (i ≡ n → ⊥)

-- So it is at least n.
pub past : (i n : ℕ) → Others i n → n ≤ i
past i zero none = zero-le
past i (suc n) (before, here) = omega (arith, past i n before)
