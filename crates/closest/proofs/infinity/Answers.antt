-- `closest::infinity` meets its contract: the ones have room in their place. Assumes nothing.
use native.Mathlib.Omega.{arith}
use Rattle.closest.proofs.Packing.{placed}
use Rattle.closest.proofs.infinity.Goals as goal

pub returns : goal.returns
returns c = rw c.from.ensures (placed c.requires c.args.t.ones (omega arith))
