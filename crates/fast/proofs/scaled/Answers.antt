-- `fast::scaled` meets its contract: a quotient or a product is the same number. Assumes nothing.
use mathlib.Core.Path.{◌∙◌}
use Rattle.fast.proofs.Places.{as_quotient, as_product}
use Rattle.fast.proofs.scaled.Goals as goal

pub returns-then-t-lt-UNIT : goal.returns-then-t-lt-UNIT
returns-then-t-lt-UNIT c =
    λ up down at. c.over.ensures ∙ as_quotient c.args.t.digits c.args.t.place up down at c.if-t-lt-UNIT.true

pub returns : goal.returns
returns c =
    λ up down at. c.times.ensures ∙ as_product c.args.t.digits c.args.t.place up down at c.if-t-lt-UNIT.false
