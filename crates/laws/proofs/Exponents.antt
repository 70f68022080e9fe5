-- The order of powers and the order of their exponents. Assumes nothing.
use mathlib.Core.Logic.{⊎_elim}
use Prim.Native.Nat.{ℕ, ◌^◌, ◌≤◌, ◌<◌}
use native.Mathlib.Nat.{pow-le-pow_right, zero-lt-suc}
use native.Mathlib.Omega.{arith}
use lib.Pow.{pow_mono}
use Rattle.laws.proofs.Branches.{which}

-- Of two powers of two the lesser has the lesser exponent.
pub lesser_exponent : (i j : ℕ) → 2 ^ i < 2 ^ j → i < j
lesser_exponent i j less = ⊎_elim (λ l. l) (λ more. absurd (omega (arith, pow_mono {i = j} {j = i} more))) (which i j)

-- Powers of ten rise with their exponents.
pub ten_mono : (i j : ℕ) → i ≤ j → 10 ^ i ≤ 10 ^ j
ten_mono i j more = pow-le-pow_right {n = 10} (zero-lt-suc 9) more
