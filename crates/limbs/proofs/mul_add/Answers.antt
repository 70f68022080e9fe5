-- `limbs::mul_add` meets its contract: the limbs passed and the carry are the product of those that were there. Assumes nothing.
use Rattle.std.proofs.Common.{◌^◌, ◌<◌, get_or, add-one, arith}
use Rattle.limbs.proofs.Product.{begin, step, finished}
use Rattle.limbs.proofs.mul_add.Goals as goal
use Rattle.limbs.proofs.mul_add.Goals.{After-from-in-loop-limb}

limb : (c : After-from-in-loop-limb) → get_or c.loop-limb.a c.loop-limb.limb-index 0 < 2 ^ 32
limb c = omega arith

pub loop-limb-init : goal.loop-limb-init
loop-limb-init c = rw c.from-carry.ensures (begin _ _ _ (omega arith))

pub loop-limb-preserved : goal.loop-limb-preserved
loop-limb-preserved c =
    let l = c.loop-limb in
    rw (c.from.ensures, c.from-in-loop-limb.ensures, add-one) (step _ _ _ l.a l.carry l.limb-index l.invariant (omega arith) (limb c) (omega arith))

pub returns : goal.returns
returns c =
    let l = c.loop-limb in
    finished _ _ _ _ _ _ l.invariant (omega (arith, l.invariant.same, l.invariant.within)) c.requires
