-- `limbs::next_chunk` meets its contract: what is read so far is a part of the digits. Assumes nothing.
use Rattle.std.proofs.Common.{length}
use Rattle.limbs.proofs.Chunks.{Part}
use Rattle.limbs.proofs.next_chunk.Given as goal

abbrev pub invariant-loop-power : goal.invariant-loop-power
invariant-loop-power l = Part l.digits l.number l.power l.rest

abbrev pub decreases-loop-power : goal.decreases-loop-power
decreases-loop-power l = length l.rest
