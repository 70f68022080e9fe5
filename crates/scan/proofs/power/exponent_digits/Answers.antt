-- `scan::power::exponent_digits` meets its contract: each turn counts one digit. Assumes nothing.
use Rattle.std.proofs.Common.{sym, ◌∙◌, arith, eqb-true}
use Rattle.std.proofs.lemmas.Bool.Decides.{nat_tests}
use Rattle.scan.proofs.Exponents.{begun, continued, broken, complete, below_limit, too_many, too_few}
use Rattle.scan.proofs.power.exponent_digits.Goals as goal
use Rattle.scan.proofs.power.exponent_digits.Goals.{then-is_empty-via-then-is_empty, then-is_empty-via-else-is_empty+then-text-gt4}

pub returns-then-is_empty : goal.returns-then-is_empty
returns-then-is_empty c =
    λ a n below.
    elim c.then-is_empty.branch [
      | then-is_empty-via-then-is_empty w ↦ too_few a n below c.args.text.now (eqb-true _ 0 (sym c.is_empty.ensures ∙ w.if-is_empty.true))
      | then-is_empty-via-else-is_empty+then-text-gt4 w ↦ too_many a n below c.args.text.now (omega arith)
    ]

pub loop-b-init : goal.loop-b-init
loop-b-init c = begun c.args.text.now (grind (arith, nat_tests))

pub returns-in_err-e : goal.returns-in_err-e
returns-in_err-e c = rw c.from_residual.ensures (broken c.loop-b.invariant (omega arith) c.in_err-e.ensures)

pub loop-b-preserved : goal.loop-b-preserved
loop-b-preserved c =
    let digit = c.in_ok-e.ensures in
    continued c.loop-b.invariant _ (omega arith) (omega arith) digit.0 digit.1

pub returns : goal.returns
returns c =
    let counted = c.loop-b.invariant in
    (below_limit counted (omega arith), complete counted (omega arith))
