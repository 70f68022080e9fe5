-- `fast::trim` meets its contract: each turn takes a zero off. Assumes nothing.
use Rattle.fast.specs.Quick.{Trims}
use Rattle.fast.proofs.trim.Given as goal

abbrev pub invariant-loop-t : goal.invariant-loop-t
invariant-loop-t l = Trims l.digits l.place l.t.digits l.t.place

abbrev pub decreases-loop-t : goal.decreases-loop-t
decreases-loop-t l = l.t.digits
