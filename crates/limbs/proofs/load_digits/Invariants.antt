-- `limbs::load_digits` meets its contract: the digits passed are in the limbs. Assumes nothing.
use Rattle.std.proofs.Common.{length}
use Rattle.limbs.proofs.Reading.{Read}
use Rattle.limbs.proofs.load_digits.Given as goal

abbrev pub invariant-loop-rest : goal.invariant-loop-rest
invariant-loop-rest l = Read l.initial.a l.digits l.a l.rest

abbrev pub decreases-loop-rest : goal.decreases-loop-rest
decreases-loop-rest l = length l.rest
