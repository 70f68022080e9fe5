-- A number below 2^32 is a pattern of 32 bits. Assumes nothing.
use native.Mathlib.Omega.{arith}
use Rattle.rules.specs.Width.{w32}
use Rattle.patterns.proofs.U32Pattern.pattern.Goals as goal

pub overflow_cast-result : goal.overflow_cast-result
unfolding w32
overflow_cast-result c = omega (arith, c.requires)
