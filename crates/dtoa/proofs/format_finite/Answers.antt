-- `dtoa::format_finite` meets its contract. Assumes nothing.
use native.Mathlib.Omega.{arith}
use Rattle.rules.specs.Answer.{finite_only, refuses}
use Rattle.dtoa.proofs.Outcomes.{too_short, not_finite, printed}
use Rattle.text.proofs.Spelling.{found, found_not}
use Rattle.dtoa.proofs.format_finite.Goals as goal

pub returns-then-buf-lt-ROOM : goal.returns-then-buf-lt-ROOM
returns-then-buf-lt-ROOM g c = too_short finite_only g.P.Pattern.width _ _ (omega (arith, c.if-buf-lt-ROOM.true))

pub returns-then-is_special : goal.returns-then-is_special
unfolding refuses
returns-then-is_special g c =
    not_finite finite_only g.P.Pattern.width _ _ c.if-buf-lt-ROOM.false (found c.is_special.ensures c.if-is_special.true)

pub returns : goal.returns
unfolding refuses
returns g c =
    printed finite_only g.P.Pattern.width _ _ c.if-buf-lt-ROOM.false (found_not c.is_special.ensures c.if-is_special.false) c.print.ensures
