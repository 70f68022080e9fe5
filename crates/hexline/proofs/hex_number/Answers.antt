-- `hexline::hex_number` meets its contract. Assumes nothing.
use mathlib.Core.Path.{sym, ◌∙◌}
use native.Mathlib.Omega.{arith}
use Rattle.hexline.proofs.Digits.{ends, before_it, in_word, read_on, read_end}
use Rattle.hexline.proofs.hex_number.Goals as goal

pub overflow_mul-v : goal.overflow_mul-v
overflow_mul-v c = omega (arith, before_it c.loop-b.invariant c.loop-b-test.true c.requires)

pub returns-in_err-hex_digit-clause-number : goal.returns-in_err-hex_digit-clause-number
returns-in_err-hex_digit-clause-number c =
    c.from_residual.ensures ∙ sym (ends c.loop-b.invariant c.loop-b-test.true (sym c.in_err-hex_digit.ensures.value))

pub overflow_add-v : goal.overflow_add-v
overflow_add-v c =
    let digit = c.in_ok-hex_digit.ensures in
    omega (arith, in_word c.loop-b.invariant c.loop-b-test.true (sym digit.value) digit.less c.requires)

pub loop-b-preserved : goal.loop-b-preserved
loop-b-preserved c =
    let digit = c.in_ok-hex_digit.ensures in
    rw c.from.ensures (read_on c.loop-b.invariant c.loop-b-test.true (sym digit.value) digit.less)

pub returns-clause-number : goal.returns-clause-number
returns-clause-number c = sym (read_end c.loop-b.invariant (omega (arith, c.loop-b-test.false)))
