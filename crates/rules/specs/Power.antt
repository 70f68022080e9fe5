-- The power of ten that scales the three numbers. E is the upper boundary's exponent, given with `off` added. Assumes nothing.
use Rattle.std.specs.Prelude.{ℕ, zero, suc, ◌+◌, ◌-◌, ◌*◌, ◌^◌, true, false, leb, ℤ, pos, nat_abs, ◌+ℤ◌}
use Rattle.std.proofs.Math.IntN.{sub_ℕ}
use Rattle.std.specs.Int.Signed.{shr_z}
use Rattle.rules.specs.Width.{Width, off}

-- The smallest number from i on, and at most i + fuel, at which 10^i * b reaches a.
unfoldable pub least_ten : ℕ → ℕ → ℕ → ℕ → ℕ
least_ten zero a b i = i
least_ten (suc fuel) a b i = elim (leb a (10 ^ i * b)) [ true ↦ i | false ↦ least_ten fuel a b (suc i) ]

-- j with tens + 7 added, where j is the smallest whole number with 10^j >= 2^(3 - N - E): both sides times 10^(tens + 7) and 2^(E + N).
unfoldable pub j_raised : Width → ℕ → ℕ
j_raised w E = least_ten (3 * w.tens) (10 ^ (w.tens + 7) * 2 ^ (off w + 3)) (2 ^ (E + w.N)) 0

-- j, the smallest whole number with 10^j >= 2^(3 - N - E).
unfoldable pub j : Width → ℕ → ℤ
j w E = sub_ℕ (j_raised w E) (w.tens + 7)

-- k = j + 347 (64) or j + 35 (32).
unfoldable pub k : Width → ℕ → ℤ
k w E = j w E +ℤ pos (w.tens - 1)

-- The table's index: one more than k divided by eight, where the division rounds down.
unfoldable pub index : Width → ℕ → ℕ
index w E = nat_abs (shr_z (k w E) 8 +ℤ pos 1)

-- The entry at an index stands for 10^P.
unfoldable pub P : Width → ℕ → ℤ
P w i = sub_ℕ (8 * i) w.tens
