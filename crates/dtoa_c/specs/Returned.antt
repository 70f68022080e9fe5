-- What a call from C that reads promises: the number and the pattern. Assumes nothing.
use Rattle.std.specs.Prelude.{ℕ, List, ◌≡◌}
use Rattle.rules.specs.Width.{Width}
use Rattle.rules.specs.Reader.{Reading, reading}

-- An answer's two numbers.
pub record Told (a : Reading) (number pattern : ℕ) : Type 0 where
  pub number_is : number ≡ a.number
  pub pattern_is : pattern ≡ a.pattern

-- They are those of docs/RULES.md, section 8.
abbrev pub Returned : Width → List ℕ → ℕ → ℕ → Type 0
Returned w t number pattern = Told (reading w t) number pattern
