-- `dtoa::format_row` meets its contract. Assumes nothing.
use native.Mathlib.Omega.{arith}
use lib.ListN.{length-map}
use Rattle.dtoa.proofs.RowOutcomes.{too_many, too_short, printed}
use Rattle.dtoa.proofs.format_row.Goals as goal

pub returns-then-patterns-gt-ROW_LIMIT : goal.returns-then-patterns-gt-ROW_LIMIT
returns-then-patterns-gt-ROW_LIMIT g c = too_many g.P.Pattern.width _ _ (simp length-map (omega (arith, c.if-patterns-gt-ROW_LIMIT.true)))

pub returns-then-out-patterns : goal.returns-then-out-patterns
returns-then-out-patterns g c =
    too_short g.P.Pattern.width _ _ (simp length-map (omega (arith, c.if-patterns-gt-ROW_LIMIT.false))) (simp length-map (omega (arith, c.if-out-patterns.true)))

pub returns : goal.returns
returns g c = printed g.P.Pattern.width _ _ (simp length-map (omega arith)) (simp length-map (omega arith)) c.print_row.ensures
