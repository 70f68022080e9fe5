-- `places::closer` meets its contract: each early answer settles the tests of the rule. Assumes nothing.
use Prim.Native.Nat.{◌-◌}
use native.Mathlib.Omega.{arith}
use borrow.Author.Tests.{le-ltb, lt-ltb, le-leb, lt-leb}
use Rattle.rules.specs.Digits.{closer}
use Rattle.places.proofs.closer.Goals as goal

pub returns-then-distance-rest : goal.returns-then-distance-rest
unfolding closer
returns-then-distance-rest c = simp (le-ltb _ _ c.if-distance-rest.true)

pub returns-then-room-rest : goal.returns-then-room-rest
unfolding closer
returns-then-room-rest c =
    let a = c.args in
    simp (lt-ltb _ _ c.if-distance-rest.false, lt-leb a.unit (a.room - a.rest) (omega (arith, c.if-room-rest.true)))

pub returns-then-next-distance : goal.returns-then-next-distance
unfolding closer
returns-then-next-distance c = simp (lt-ltb _ _ c.if-distance-rest.false, le-leb _ _ c.if-room-rest.false, lt-ltb _ _ c.if-next-distance.true)

pub returns : goal.returns
unfolding closer
returns c = simp (lt-ltb _ _ c.if-distance-rest.false, le-leb _ _ c.if-room-rest.false, le-ltb _ _ c.if-next-distance.false)
