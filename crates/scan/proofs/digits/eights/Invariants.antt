-- `scan::digits::eights` meets its contract: each turn goes over eight digits. Assumes nothing.
use Rattle.std.proofs.Common.{length}
use Rattle.scan.specs.Goes.{Goes}
use Rattle.scan.proofs.digits.eights.Given as goal

abbrev pub invariant-loop-held : goal.invariant-loop-held
invariant-loop-held l = Goes l.text l.fn.start l.rest l.held

abbrev pub decreases-loop-held : goal.decreases-loop-held
decreases-loop-held l = length l.rest
