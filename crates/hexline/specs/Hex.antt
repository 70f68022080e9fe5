-- What a line of hex digits says: a pattern of 32 bits in 8 digits, or of 64 bits in 16. Assumes nothing.
use Rattle.std.specs.Prelude.{ℕ, ◌+◌, ◌-◌, ◌*◌, true, false, ◌&&◌, List, [], ◌∷◌, leb, eqb, length, Option, Some, None}
use Rattle.hexline.specs.declared.Pattern.{Pattern}
use Rattle.hexline.specs.declared.Pattern.TheVariants.{Single, Double}

-- The value of a hex digit, `0` to `9`, `A` to `F` or `a` to `f`; of any other byte none.
unfoldable pub digit : ℕ → Option ℕ
digit b =
    elim (leb 48 b && leb b 57) [
      | true ↦ Some (b - 48)
      | false ↦
          elim (leb 65 b && leb b 70) [
            | true ↦ Some (b - 65 + 10)
            | false ↦ elim (leb 97 b && leb b 102) [ true ↦ Some (b - 97 + 10) | false ↦ None ]
          ]
    ]

-- The number that hex digits make behind the number a; none if one is no digit.
unfoldable pub number_from : ℕ → List ℕ → Option ℕ
number_from a [] = Some a
number_from a (b ∷ bs) = elim (digit b) [ None ↦ None | Some d ↦ number_from (a * 16 + d) bs ]

-- A number as a pattern.
unfoldable pub as_pattern : (ℕ → Pattern) → Option ℕ → Option Pattern
as_pattern kind None = None
as_pattern kind (Some v) = Some (kind v)

-- What a line says, without its line end.
unfoldable pub pattern_of : List ℕ → Option Pattern
pattern_of t =
    elim (eqb (length t) 8) [
      | true ↦ as_pattern Single (number_from 0 t)
      | false ↦ elim (eqb (length t) 16) [ true ↦ as_pattern Double (number_from 0 t) | false ↦ None ]
    ]
