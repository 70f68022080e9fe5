-- `scan::digits::whole` meets its contract: the first digits, then the rest. Assumes nothing.
use Rattle.scan.proofs.Going.{then}
use Rattle.scan.proofs.digits.whole.Goals as goal

pub returns-then-starts : goal.returns-then-starts
returns-then-starts c = record { goes = then c.leading-front.ensures c.digits.ensures.goes; ends = c.digits.ensures.ends }
