-- The entries of the table are right, by a test of each that computes. Assumes nothing.
use Rattle.std.proofs.Common.{◌≡◌, ℕ, zero, suc, ◌+◌, ◌*◌, ◌^◌, ◌<◌, Bool, true, ◌&&◌, T, List, [], ◌∷◌, length, get_or, subst, arith}
use Rattle.laws.proofs.Branches.{and_left, and_right}
use Rattle.laws.proofs.Tests.{Test, le, lt, ◌and◌, Holds, run, says}
use Rattle.tens.specs.declared.table.TheConstants.{POWERS}
use Rattle.tens.specs.Leading.{exponent, Leading}

-- That x is the leading 64 bits of 10^(i - 342) ..
abbrev one : ℕ → ℕ → Test
one i x =
    le (2 ^ 63) x
    and le (x * 2 ^ exponent i * 10 ^ 342) (10 ^ i * 2 ^ 1200)
    and lt (10 ^ i * 2 ^ 1200) ((x + 1) * 2 ^ exponent i * 10 ^ 342)

-- .. and that a list has those from the i-th power on.
abbrev all_from : ℕ → List ℕ → Bool
all_from i [] = true
all_from i (x ∷ xs) = run (one i x) && all_from (suc i) xs

leading : (i x : ℕ) → Holds (one i x) → Leading i x
leading i x (most, (least, next)) = record { high = most; below = least; above = next }

entry : (xs : List ℕ) (first j i : ℕ) → T (all_from first xs) → j < length xs → first + j ≡ i → Leading i (get_or xs j 0)
entry [] first j i passes inside at = absurd (omega arith)
entry (x ∷ xs) first zero i passes inside at =
    let here : first ≡ i = omega arith in
    subst (λ (k : ℕ). Leading k x) here (leading first x (says (one first x) (and_left (run (one first x)) (all_from (suc first) xs) passes)))
entry (x ∷ xs) first (suc j) i passes inside at =
    entry xs (suc first) j i (and_right (run (one first x)) (all_from (suc first) xs) passes) (omega arith) (omega arith)

pub of_table : (i : ℕ) → i < 652 → Leading i (get_or POWERS i 0)
unfolding exponent
of_table i inside = entry POWERS 0 i i tt inside (omega arith)
