-- `scan::power::exponent_digits` meets its contract: each turn counts one digit. Assumes nothing.
use Rattle.scan.proofs.Exponents.{Counted}
use Rattle.scan.proofs.power.exponent_digits.Given as goal

abbrev pub invariant-loop-b : goal.invariant-loop-b
invariant-loop-b l = Counted l.text l.b-index l.e
