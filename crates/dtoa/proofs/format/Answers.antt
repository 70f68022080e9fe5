-- `dtoa::format` meets its contract. Assumes nothing.
use native.Mathlib.Omega.{arith}
use Rattle.rules.specs.Answer.{every, refuses}
use Rattle.dtoa.proofs.Outcomes.{too_short, printed}
use Rattle.dtoa.proofs.format.Goals as goal

pub returns-then-buf-lt-ROOM : goal.returns-then-buf-lt-ROOM
returns-then-buf-lt-ROOM g c = too_short every g.P.Pattern.width _ _ (omega (arith, c.if-buf-lt-ROOM.true))

pub returns : goal.returns
unfolding refuses
returns g c = printed every g.P.Pattern.width _ _ c.if-buf-lt-ROOM.false tt c.print.ensures
