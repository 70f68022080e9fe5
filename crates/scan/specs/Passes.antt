-- Digits at the head of a text, passed one by one, and the text behind them. Assumes nothing.
use Rattle.std.specs.Prelude.{◌≡◌, ℕ, suc, ◌+◌, ◌-◌, ◌*◌, ◌^◌, ◌≤◌, true, List, ◌∷◌, length, drop}
use Rattle.rules.specs.Reading.{is_digit, extended}

-- The first n bytes of a text are digits, which turn the number a into b, and u is behind them: Passes a t n b u.
pub data Passes : ℕ → List ℕ → ℕ → ℕ → List ℕ → Type 0 where
  none : {a : ℕ} {t : List ℕ} → Passes a t 0 a t
  more : {a b n c : ℕ} {bs u : List ℕ} → is_digit b ≡ true → Passes (extended a b) bs n c u → Passes a (b ∷ bs) (suc n) c u

-- The first k bytes of the text t are digits that make v, and u is behind them.
pub record Makes (k : ℕ) (t : List ℕ) (v : ℕ) (u : List ℕ) : Type 0 where
  pub passes : (a : ℕ) → Passes a t k (a * 10 ^ k + v) u

-- The text t ends with u.
pub record Ends (t u : List ℕ) : Type 0 where
  pub inside : length u ≤ length t
  pub is : drop (length t - length u) t ≡ u
