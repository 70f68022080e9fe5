-- `scan::digits::kept` meets its contract: each turn goes over one digit. Assumes nothing.
use Rattle.std.proofs.Common.{length}
use Rattle.scan.specs.Goes.{Goes, with_digits}
use Rattle.scan.proofs.digits.kept.Given as goal

abbrev pub invariant-loop-digits : goal.invariant-loop-digits
invariant-loop-digits l = Goes l.text l.fn.start l.rest (with_digits l.fn.start l.digits)

abbrev pub decreases-loop-digits : goal.decreases-loop-digits
decreases-loop-digits l = length l.rest
