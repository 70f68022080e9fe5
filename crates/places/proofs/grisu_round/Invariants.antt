-- `places::grisu_round` meets its contract: the falls so far and those that are left are all of them. Assumes nothing.
use Prim.Native.Nat.{◌-◌}
use Rattle.places.specs.Places.{measure}
use Rattle.places.proofs.Falls.{Falling}
use Rattle.places.proofs.grisu_round.Given as goal

abbrev pub invariant-loop-at : goal.invariant-loop-at
invariant-loop-at l = Falling (measure l.unit l.room l.distance) l.rest l.fallen l.at

abbrev pub decreases-loop-at : goal.decreases-loop-at
decreases-loop-at l = l.room - l.at
