-- `scan::digits::leading` meets its contract: each turn goes over one digit, and there is room for it. Assumes nothing.
use Rattle.std.proofs.Common.{◌^◌, ◌<◌, drop}
use Rattle.scan.specs.Goes.{all_of, no_digits, Goes}
use Rattle.scan.proofs.digits.leading.Given as goal

abbrev pub invariant-loop-i : goal.invariant-loop-i
invariant-loop-i l = Goes l.text no_digits (drop l.i l.text) (all_of l.n) × (l.n < 10 ^ l.i)
