-- Powers of two and ten, and products in one order. Assumes nothing.
use mathlib.Core.Path.{◌≡◌, ap, ◌∙◌}
use Prim.Native.Nat.{ℕ, zero, suc, ◌-◌, ◌*◌, ◌^◌, ◌<◌}
use native.Mathlib.Nat.{mul_assoc, mul_comm, mul_left_comm, one-le-pow, zero-lt-suc, pow-succ'}
use native.Mathlib.Omega.{arith}

-- Products of the same factors are the same: `simp monomials` brings both to one order.
pub ruleset monomials = (mul_assoc, mul_comm, mul_left_comm)

pub ten_pos : (n : ℕ) → 0 < 10 ^ n
ten_pos n = one-le-pow n 10 (zero-lt-suc 9)

-- A power is twice the one before it.
pub two_halves : (e : ℕ) → 0 < e → 2 ^ e ≡ 2 * 2 ^ (e - 1)
two_halves e h = ap (λ (x : ℕ). 2 ^ x) (omega arith) ∙ pow-succ' 2 (e - 1)

-- Every number is below the power of ten that it names.
pub below_ten : (n : ℕ) → n < 10 ^ n
below_ten zero = zero-lt-suc 0
below_ten (suc n) = omega (arith, below_ten n, pow-succ' 10 n)
