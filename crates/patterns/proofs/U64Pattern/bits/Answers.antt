-- A pattern of 64 bits fits its width. Assumes nothing.
use native.Mathlib.Omega.{arith}
use Rattle.rules.specs.Width.{w64}
use Rattle.patterns.proofs.U64Pattern.bits.Goals as goal

pub returns-clause-fits : goal.returns-clause-fits
unfolding w64
returns-clause-fits c = omega (arith, c.ranges.self.fits)
