-- The text of every pattern. Assumes nothing.
use Rattle.std.specs.Prelude.{ℕ, true, false, List, ◌∷◌, eqb}
use Rattle.rules.specs.Bytes.{bytes, minus}
use Rattle.rules.specs.Numbers.{numeral}
use Rattle.rules.specs.Width.{Width}
use Rattle.rules.specs.Pattern.{Pair, negative, significand, special, magnitude}
use Rattle.rules.specs.Digits.{decimal}
use Rattle.rules.specs.Layout.{layout}

-- The text of a magnitude: `0.0` for zero, else its digits laid out.
unfoldable pub shown : Width → Pair → List ℕ
shown w m =
    elim (eqb m.f 0) [
      | true ↦ bytes "0.0"
      | false ↦ let d = decimal w m in layout (numeral d.len d.digits) d.k
    ]

-- A text behind the pattern's sign: `-` if it is negative.
unfoldable pub signed : Width → ℕ → List ℕ → List ℕ
signed w v t = elim (negative w v) [ true ↦ minus ∷ t | false ↦ t ]

-- The text of a pattern: `NaN` whatever the sign, `inf` or `-inf`, or the sign and the text of its magnitude.
unfoldable pub text : Width → ℕ → List ℕ
text w v =
    elim (special w v) [
      | true ↦ elim (eqb (significand w v) 0) [ true ↦ signed w v (bytes "inf") | false ↦ bytes "NaN" ]
      | false ↦ signed w v (shown w (magnitude w v))
    ]
