-- `settle::midpoint_above` meets its contract, by the pattern's exponent field. Assumes nothing.
use native.Mathlib.Omega.{arith}
use Rattle.settle.proofs.Middles.{field_few, with_field_0, with_field}
use Rattle.settle.proofs.midpoint_above.Goals as goal

pub returns-then-field-eq0 : goal.returns-then-field-eq0
returns-then-field-eq0 c =
    with_field_0 c.args.t c.requires.0 c.args.p _ c.hidden_bit-hidden.ensures c.requires.1 c.if-field-eq0.true

pub overflow_cast-result : goal.overflow_cast-result
overflow_cast-result c = omega (arith, field_few c.args.t c.requires.0 c.args.p _ c.hidden_bit-hidden.ensures c.requires.1)

pub returns : goal.returns
returns c =
    with_field c.args.t c.requires.0 c.args.p _ c.hidden_bit-hidden.ensures c.requires.1 (omega (arith, c.if-field-eq0.false))
