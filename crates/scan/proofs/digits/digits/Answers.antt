-- `scan::digits::digits` meets its contract: digits that are kept, then digits that are not. Assumes nothing.
use Rattle.scan.proofs.Going.{then}
use Rattle.scan.proofs.digits.digits.Goals as goal

pub returns : goal.returns
returns c = record { goes = then c.kept-front.ensures.goes c.dropped.ensures.goes; ends = c.dropped.ensures.ends }
