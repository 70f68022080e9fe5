-- `scan::digits::dropped` meets its contract: each turn goes over one digit. Assumes nothing.
use Rattle.std.proofs.Common.{◌^◌, ◌≤◌, length}
use Rattle.scan.specs.Goes.{Goes}
use Rattle.scan.proofs.digits.dropped.Given as goal

abbrev pub invariant-loop-rest : goal.invariant-loop-rest
invariant-loop-rest l = Goes l.text l.fn.start l.rest l.held × (10 ^ 18 ≤ l.held.digits)

abbrev pub decreases-loop-rest : goal.decreases-loop-rest
decreases-loop-rest l = length l.rest
