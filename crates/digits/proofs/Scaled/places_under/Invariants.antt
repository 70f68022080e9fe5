-- `digits::Scaled::places_under` meets its contract. Assumes nothing.
use Prim.Native.Nat.{◌-◌}
use Rattle.digits.specs.Digits.{TriedUnder}
use Rattle.digits.proofs.Scaled.places_under.Given as goal

abbrev pub invariant-loop-room : goal.invariant-loop-room
invariant-loop-room l = TriedUnder l.self.h l.self.delta l.self.x l.len l.down l.at l.rest l.room l.initial.buf l.buf

abbrev pub decreases-loop-room : goal.decreases-loop-room
decreases-loop-room l = l.self.x - l.down
