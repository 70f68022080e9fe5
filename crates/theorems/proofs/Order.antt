-- `nearest` keeps the order of fractions: equal ones read alike, and so does what lies between two that read alike. Assumes nothing.
use mathlib.Core.Path.{◌≡◌, sym}
use Prim.Native.Nat.{ℕ, ◌*◌, ◌≤◌, ◌<◌}
use native.Mathlib.Nat.{le_of_eq, le_antisymm}
use native.Mathlib.Omega.{arith}
use Rattle.rules.specs.Width.{Width}
use Rattle.rules.specs.Reading.{nearest}
use Rattle.theorems.proofs.Readable.{Readable}
use Rattle.theorems.proofs.Unbounded.{unbounded_mono}

module _ (w : Width) (r : Readable w) where
  -- The nearest pattern does not fall as the fraction rises.
  pub nearest_mono : (a b c d : ℕ) → 0 < b → 0 < d → a * d ≤ c * b → nearest w a b ≤ nearest w c d
  unfolding nearest
  nearest_mono a b c d B D h = omega (arith, unbounded_mono w r a b c d B D h)

  -- Equal fractions read alike.
  pub nearest-same : (a b c d : ℕ) → 0 < b → 0 < d → a * d ≡ c * b → nearest w a b ≡ nearest w c d
  nearest-same a b c d B D e = le_antisymm (nearest_mono a b c d B D (le_of_eq e)) (nearest_mono c d a b D B (le_of_eq (sym e)))

  -- Where a / b and c / d read as v, so does x / y between them.
  pub between : (a b c d x y v : ℕ) → 0 < b → 0 < d → 0 < y → a * y ≤ x * b → x * d ≤ c * y →
      nearest w a b ≡ v → nearest w c d ≡ v → nearest w x y ≡ v
  between a b c d x y v B D Y low high e f = omega (arith, nearest_mono a b x y B Y low, nearest_mono x y c d Y D high)
