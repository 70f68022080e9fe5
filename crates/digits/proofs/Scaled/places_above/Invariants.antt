-- `digits::Scaled::places_above` meets its contract. Assumes nothing.
use Rattle.digits.proofs.PlacesAbove.{Turn}
use Rattle.digits.proofs.Scaled.places_above.Given as goal

abbrev pub invariant-loop-kappa : goal.invariant-loop-kappa
invariant-loop-kappa l = Turn l.self.h l.self.delta l.self.x l.kappa l.len l.rest l.p1 l.p2 l.initial.buf l.buf

abbrev pub decreases-loop-kappa : goal.decreases-loop-kappa
decreases-loop-kappa l = l.kappa
