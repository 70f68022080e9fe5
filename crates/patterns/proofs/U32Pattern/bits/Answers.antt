-- A pattern of 32 bits fits its width. Assumes nothing.
use native.Mathlib.Omega.{arith}
use Rattle.rules.specs.Width.{w32}
use Rattle.patterns.proofs.U32Pattern.bits.Goals as goal

pub returns-clause-fits : goal.returns-clause-fits
unfolding w32
returns-clause-fits c = omega (arith, c.ranges.self.fits)
