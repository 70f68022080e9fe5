-- `scan::digits::decimals` meets its contract: eight by eight, to the end, then one by one. Assumes nothing.
use Rattle.std.proofs.Common.{[], arith}
use Rattle.scan.proofs.Passing.{starts_end}
use Rattle.scan.proofs.Going.{then}
use Rattle.scan.proofs.digits.decimals.Goals as goal

pub returns-in-Some : goal.returns-in-Some
returns-in-Some c =
    record { goes = then c.eights-front.ensures c.in-Some.ensures; ends = starts_end [] (omega arith) }

pub returns-in-None : goal.returns-in-None
returns-in-None c = record { goes = then c.eights-front.ensures c.digits.ensures.goes; ends = c.digits.ensures.ends }
