-- The parts of a text that need no digits: a sign, and the names of infinities and NaN. Assumes nothing.
use Rattle.std.specs.Prelude.{ℕ, Bool, true, false, List, [], ◌∷◌, ◌++◌}
use Rattle.rules.specs.Bytes.{bytes, minus}

-- A `-` where a number is negative.
abbrev pub dash : Bool → List ℕ
dash true = minus ∷ []
dash false = []

-- The name of an infinity with its sign, or of a NaN, which has none.
abbrev pub name : Bool → Bool → List ℕ
name negative true = dash negative ++ bytes "inf"
name negative false = bytes "NaN"
