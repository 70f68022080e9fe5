-- A row: the texts of several patterns with a space between two, and what the call for a row answers and leaves. Assumes nothing.
use Rattle.std.specs.Prelude.{ℕ, ◌*◌, true, false, List, [], ◌∷◌, ◌++◌, map, ltb, eqb, length}
use Rattle.rules.specs.Bytes.{space}
use Rattle.rules.specs.Width.{Width}
use Rattle.rules.specs.Text.{text}
use Rattle.rules.specs.Answer.{Answer, answering, leaving}

-- Texts in order: one space between two, none before the first or behind the last.
unfoldable pub spaced : List (List ℕ) → List ℕ
spaced [] = []
spaced (t ∷ []) = t
spaced (t ∷ u ∷ ts) = t ++ (space ∷ spaced (u ∷ ts))

-- The row of patterns: the text of each.
unfoldable pub row : Width → List ℕ → List ℕ
row w vs = spaced (map (text w) vs)

-- The most patterns that a row may have.
abbrev pub row_limit : ℕ
row_limit = 4096

-- The room that each pattern of a row is to have: its longest text and a space.
abbrev pub row_room : ℕ
row_room = 26

-- The answer's number, by the count of patterns and the room in the lent buffer: 3 too many, looked at first; 4 too short; 0 printed.
unfoldable pub row_number : ℕ → ℕ → ℕ
row_number count room = elim (ltb row_limit count) [ true ↦ 3 | false ↦ elim (ltb room (row_room * count)) [ true ↦ 4 | false ↦ 0 ] ]

-- What the call for a row answers.
unfoldable pub row_answer : Width → List ℕ → ℕ → Answer
row_answer w vs room = answering (row_number (length vs) room) (row w vs)

-- The buffer after it.
unfoldable pub row_after : Width → List ℕ → List ℕ → List ℕ
row_after w vs buf = leaving (row_number (length vs) (length buf)) (row w vs) buf

-- ---- a row cut at its spaces

-- A byte before the first of some pieces.
unfoldable pub onto : ℕ → List (List ℕ) → List (List ℕ)
onto b [] = (b ∷ []) ∷ []
onto b (t ∷ ts) = (b ∷ t) ∷ ts

-- What stands before the first space, between two, and behind the last.
unfoldable pub pieces : List ℕ → List (List ℕ)
pieces [] = [] ∷ []
pieces (b ∷ bs) = elim (eqb b space) [ true ↦ [] ∷ pieces bs | false ↦ onto b (pieces bs) ]

-- The texts of a row. An empty row has none.
unfoldable pub cut : List ℕ → List (List ℕ)
cut [] = []
cut (b ∷ bs) = pieces (b ∷ bs)
