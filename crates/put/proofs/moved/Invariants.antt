-- `put::moved` meets its contract: what has moved is put already, and what has not is as it was. Assumes nothing.
use Prim.Native.Nat.{◌+◌, ◌≤◌}
use lib.Seq.{slice}
use Rattle.laws.specs.Puts.{Puts}
use Rattle.put.proofs.moved.Given as goal

abbrev pub invariant-loop-i : goal.invariant-loop-i
invariant-loop-i l = (l.from ≤ l.i) × (l.i ≤ l.end) × Puts (slice l.i l.end l.initial.buf) l.initial.buf (l.i + l.by) l.buf (l.end + l.by)
