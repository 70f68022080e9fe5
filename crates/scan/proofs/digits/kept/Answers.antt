-- `scan::digits::kept` meets its contract: each turn goes over one digit. Assumes nothing.
use Rattle.std.proofs.Common.{◌+◌, ◌*◌, List, ℕ, sym, subst, arith}
use Rattle.std.proofs.lemmas.List.{take_rest}
use Rattle.scan.specs.Goes.{Goes, with_digits}
use Rattle.scan.proofs.Keeping.{longer}
use Rattle.scan.proofs.Passing.{digit_range, one, starts_end, starts_byte}
use Rattle.scan.proofs.Going.{stays, then, over}
use Rattle.scan.proofs.digits.kept.Goals as goal
use Rattle.scan.proofs.digits.kept.Goals.{else-loop-digits-test, then-loop-digits-test+in_default, then-loop-digits-test+in-len1-up+in_default-value}

pub loop-digits-init : goal.loop-digits-init
loop-digits-init c = stays

pub loop-digits-preserved : goal.loop-digits-preserved
loop-digits-preserved c =
    let t = c.loop-digits.rest.now in
    let digit = c.in-Some.ensures in
    let few = digit_range _ digit.0 in
    subst (λ (u : List ℕ). Goes c.args.text.now c.args.start u (with_digits c.args.start (c.loop-digits.digits * 10 + c.in-Some.digit))) (sym (take_rest t 1))
    (then c.loop-digits.invariant
    (over 1 (one t 0 c.in-Some.digit (omega arith) digit.0 digit.1) (omega arith) (λ a k. longer k 10 c.in-Some.digit (omega arith) (omega (arith, digit.1)))))

pub returns-clause-ends : goal.returns-clause-ends
returns-clause-ends c =
    λ room.
    elim c.loop-digits-test.branch [
      | else-loop-digits-test w ↦ absurd (omega arith)
      | then-loop-digits-test+in_default w ↦ starts_end c.loop-digits.rest.now (omega arith)
      | then-loop-digits-test+in-len1-up+in_default-value w ↦ starts_byte c.loop-digits.rest.now _ (omega arith) w.in_default-value.ensures
    ]
