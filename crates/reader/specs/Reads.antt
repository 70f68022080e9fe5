-- What a number that was scanned reads as. Assumes nothing.
use Rattle.std.specs.Prelude.{ℕ, ◌*◌, ◌^◌, List, ◌≡◌}
use Rattle.rules.specs.Width.{Width}
use Rattle.rules.specs.Reading.{nearest}
use Rattle.scan.specs.declared.Decimal.{Decimal}
use Rattle.scan.specs.Mantissa.{mantissa, behind_sign}
use Rattle.scan.specs.Scans.{Says}

-- The pattern v, without a sign, is the nearest to the number x that the text t says.
abbrev pub Reads : Width → List ℕ → Decimal → ℕ → Type 0
Reads w t x v = (s : Says t x) → v ≡ nearest w (mantissa 0 (behind_sign x.negative t) * 10 ^ s.up) (10 ^ s.down)
