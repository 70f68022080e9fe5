-- `tens::exponent_of` meets its contract. Assumes nothing.
use native.Mathlib.Omega.{arith}
use Rattle.tens.specs.Leading.{exponent}
use Rattle.tens.proofs.exponent_of.Goals as goal

pub returns : goal.returns
unfolding exponent
returns c = omega arith
