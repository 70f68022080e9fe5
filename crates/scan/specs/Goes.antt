-- From a text to what is behind digits at its head, with what is kept of the number they make. Assumes nothing.
use Rattle.std.specs.Prelude.{◌≡◌, ℕ, ◌+◌, ◌-◌, ◌≤◌, false, List, length}
use Rattle.scan.specs.declared.digits.Held.{Held}
use Rattle.scan.specs.Heads.{starts}
use Rattle.scan.specs.Kept.{Kept}
use Rattle.scan.specs.Passes.{Passes, Ends}

-- What is held of the number a.
abbrev pub Keeps : ℕ → Held → Type 0
Keeps a h = Kept a h.digits h.dropped h.more

-- The same with other digits.
abbrev pub with_digits : Held → ℕ → Held
with_digits h n = record { digits = n; dropped = h.dropped; more = h.more }

-- Digits that make n and are all kept.
abbrev pub all_of : ℕ → Held
all_of n = record { digits = n; dropped = 0; more = false }

-- Of no digits, nothing is held.
abbrev pub no_digits : Held
no_digits = all_of 0

-- Behind n digits at the head of the text t, which follow the number a, is the text u, and `held` is kept of the whole number.
pub record Leads (a : ℕ) (t : List ℕ) (n : ℕ) (u : List ℕ) (held : Held) : Type 0 where
  pub all : ℕ
  pub passes : Passes a t n all u
  pub keeps : Keeps all held

-- The text t is digits and then the text u. Where `start` is kept of the number before them, `held` is kept of the number with them.
pub record Goes (t : List ℕ) (start : Held) (u : List ℕ) (held : Held) : Type 0 where
  pub ends : Ends t u
  pub few : held.dropped + length u ≤ start.dropped + length t
  pub leads : (a : ℕ) → Keeps a start → Leads a t (length t - length u) u held

-- All digits at the head of the text t are passed.
pub record Reaches (t : List ℕ) (start : Held) (u : List ℕ) (held : Held) : Type 0 where
  pub goes : Goes t start u held
  pub ends : starts u ≡ false
