-- `dtoa_c::dtoa_format_finite64` meets its contract. Assumes nothing.
use native.Mathlib.Omega.{arith}
use Rattle.rules.specs.Width.{w64}
use Rattle.rules.specs.Answer.{finite_only}
use Rattle.theorems.proofs.Printable.{printable64}
use Rattle.dtoa_c.proofs.Answering.{length_held}
use Rattle.dtoa_c.proofs.dtoa_format_finite64.Goals as goal

pub answered-requires : goal.answered-requires
answered-requires c = omega (arith, length_held finite_only w64 _ _ _ printable64 _ c.format_finite.ensures)
