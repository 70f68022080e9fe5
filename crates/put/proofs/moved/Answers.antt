-- `put::moved` meets its contract: what has moved is put already, and what has not is as it was. Assumes nothing.
use native.Mathlib.Omega.{arith}
use Rattle.laws.proofs.Puts.{none_moved, one_moved}
use Rattle.put.proofs.moved.Goals as goal

pub loop-i-init : goal.loop-i-init
loop-i-init c = (c.requires.from_le_end, omega arith, none_moved _ _ _ c.requires.by_in_bounds)

pub loop-i-preserved : goal.loop-i-preserved
loop-i-preserved c =
    let inv = c.loop-i.invariant in
    (omega arith, omega arith, one_moved _ _ _ c.requires.by_in_bounds c.loop-i.i 0 (omega arith) inv.1 inv.2)
