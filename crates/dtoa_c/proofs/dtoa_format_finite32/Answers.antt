-- `dtoa_c::dtoa_format_finite32` meets its contract. Assumes nothing.
use native.Mathlib.Omega.{arith}
use Rattle.rules.specs.Width.{w32}
use Rattle.rules.specs.Answer.{finite_only}
use Rattle.theorems.proofs.Printable.{printable32}
use Rattle.dtoa_c.proofs.Answering.{length_held}
use Rattle.dtoa_c.proofs.dtoa_format_finite32.Goals as goal

pub answered-requires : goal.answered-requires
answered-requires c = omega (arith, length_held finite_only w32 _ _ _ printable32 _ c.format_finite.ensures)
