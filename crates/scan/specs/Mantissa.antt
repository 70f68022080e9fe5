-- The number that all digits of a text make, the point left out. Assumes nothing.
use Rattle.std.specs.Prelude.{ℕ, Bool, true, false, List, [], ◌∷◌, drop, ◌==◌}
use Rattle.rules.specs.Bytes.{point}
use Rattle.rules.specs.Reading.{is_digit, extended}

-- The number a with the digits of a text behind it, up to the first byte that is neither a digit nor a point.
unfoldable pub mantissa : ℕ → List ℕ → ℕ
mantissa a [] = a
mantissa a (b ∷ bs) =
    elim (is_digit b) [
      | true ↦ mantissa (extended a b) bs
      | false ↦ elim (b == point) [ true ↦ mantissa a bs | false ↦ a ]
    ]

-- A text without the sign that it may begin with: true stands for a `-`.
unfoldable pub behind_sign : Bool → List ℕ → List ℕ
behind_sign true t = drop 1 t
behind_sign false t = t
