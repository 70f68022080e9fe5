-- `row::print_row` meets its contract: one pattern less is left with each turn. Assumes nothing.
use mathlib.Core.List.{map}
use Rattle.row.proofs.Joining.{Before}
use Rattle.row.proofs.print_row.Given as goal

abbrev pub invariant-loop-pattern : goal.invariant-loop-pattern
invariant-loop-pattern g l = Before g.P.Pattern.width (map g.P.Pattern.number l.fn.patterns) l.initial.out l.pattern-index l.out l.at
