-- Tests that the checker computes at every number of a range, and what they say there: `every f n tt i h` is what the test `f i` says,
-- where each of f 0, .., f (n - 1) computes to a pass. Assumes nothing.
use mathlib.Core.Bool.{Bool, true, ◌&&◌}
use mathlib.Core.Logic.{⊎_elim}
use mathlib.Core.Path.{sym, subst}
use Prim.Native.Nat.{ℕ, zero, suc, ◌≤◌, ◌<◌}
use native.Mathlib.Nat.{eq-or-lt_of_le, le_of_suc-le-suc, not-suc-le-zero}
use lib.Dec.{T, leb, ltb, leb→le, ltb→lt}
use Rattle.laws.proofs.Branches.{and_left, and_right}

infixr 20 ◌and◌
pub data Test : Type 0 where
  le : ℕ → ℕ → Test
  lt : ℕ → ℕ → Test
  ◌and◌ : Test → Test → Test

-- What a test says.
abbrev pub Holds : Test → Type 0
Holds (le a b) = a ≤ b
Holds (lt a b) = a < b
Holds (p and q) = Holds p × Holds q

-- Whether it passes. A test that fails leaves the later ones unread.
abbrev pub run : Test → Bool
run (le a b) = leb a b
run (lt a b) = ltb a b
run (p and q) = run p && run q

pub says : (t : Test) → T (run t) → Holds t
says (le a b) h = leb→le a b h
says (lt a b) h = ltb→lt a b h
says (p and q) h = (says p (and_left (run p) (run q) h), says q (and_right (run p) (run q) h))

-- Whether f passes at every number below n.
abbrev pub up_to : (ℕ → Test) → ℕ → Bool
up_to f zero = true
up_to f (suc n) = run (f n) && up_to f n

pub every : (f : ℕ → Test) (n : ℕ) → T (up_to f n) → (i : ℕ) → i < n → Holds (f i)
every f zero t i h = absurd (not-suc-le-zero h)
every f (suc n) t i h =
    ⊎_elim (λ e. subst (λ (m : ℕ). Holds (f m)) (sym e) (says (f n) (and_left (run (f n)) (up_to f n) t)))
    (λ less. every f n (and_right (run (f n)) (up_to f n) t) i less) (eq-or-lt_of_le (le_of_suc-le-suc h))
