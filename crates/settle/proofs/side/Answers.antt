-- `settle::side` meets its contract: the fives and twos of the power of ten stand at one side. Assumes nothing.
use Rattle.scan.specs.Mantissa.{mantissa}
use Rattle.settle.proofs.Sides.{above_unit, below_unit}
use Rattle.settle.proofs.side.Goals as goal

pub returns-then-tens-lt-UNIT : goal.returns-then-tens-lt-UNIT
returns-then-tens-lt-UNIT c =
    below_unit c.args.t c.against.result (mantissa 0 c.args.digits.now) c.args.tens c.args.p _ _
    c.midpoint_above-h.ensures c.if-tens-lt-UNIT.true c.against.ensures

pub returns : goal.returns
returns c =
    above_unit c.args.t c.against-2.result (mantissa 0 c.args.digits.now) c.args.tens c.args.p _ _
    c.midpoint_above-h.ensures c.if-tens-lt-UNIT.false c.against-2.ensures
