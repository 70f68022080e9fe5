-- `places::grisu_round` meets its contract: the falls so far and those that are left are all of them. Assumes nothing.
use mathlib.Core.Bool.{true}
use mathlib.Core.Path.{◌≡◌, sym, ◌∙◌}
use native.Mathlib.Omega.{arith}
use Rattle.rules.specs.Digits.{closer}
use Rattle.places.specs.Places.{measure}
use Rattle.places.proofs.Falls.{settled, room_left, fall_more}
use Rattle.places.proofs.grisu_round.Goals as goal

-- Where it falls once more.
falls-on : (c : goal.In-loop-at) →
    closer (measure c.args.unit c.args.room c.args.distance)
    c.loop-at.at
    ≡ true
falls-on c = sym c.closer.ensures ∙ c.loop-at-test.true

pub overflow_add-at : goal.overflow_add-at
overflow_add-at c = omega (arith, room_left c.requires.room_bound c.loop-at.invariant (falls-on c))

pub loop-at-smaller : goal.loop-at-smaller
loop-at-smaller c = omega (arith, room_left c.requires.room_bound c.loop-at.invariant (falls-on c))

pub loop-at-preserved : goal.loop-at-preserved
loop-at-preserved c = fall_more c.requires.room_bound c.loop-at.invariant (falls-on c)

pub returns : goal.returns
returns c = settled c.loop-at.invariant (sym c.closer.ensures ∙ c.loop-at-test.false)
