-- What a text begins with. Assumes nothing.
use Rattle.std.specs.Prelude.{ℕ, Bool, false, List, [], ◌∷◌, ◌==◌}
use Rattle.rules.specs.Reading.{is_digit}

-- Whether a text begins with a digit.
unfoldable pub starts : List ℕ → Bool
starts [] = false
starts (b ∷ bs) = is_digit b

-- Whether a text begins with the byte b.
unfoldable pub begins : ℕ → List ℕ → Bool
begins b [] = false
begins b (c ∷ cs) = c == b
