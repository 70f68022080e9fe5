-- What is kept of a line. Assumes nothing.
use Rattle.std.specs.Prelude.{ℕ, true, false, List, [], ◌∷◌, ◌++◌, ltb, length, take}
use Rattle.lines.specs.declared.Line.{Line}

-- Its first bytes.
abbrev pub kept : Line → List ℕ
kept l = take l.len l.bytes

-- One byte more, where there are fewer than 4,096.
unfoldable pub more : List ℕ → ℕ → List ℕ
more t b = elim (ltb (length t) 4096) [ true ↦ t ++ (b ∷ []) | false ↦ t ]
