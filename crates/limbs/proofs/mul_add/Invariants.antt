-- `limbs::mul_add` meets its contract: the limbs passed and the carry are the product of those that were there. Assumes nothing.
use Rattle.limbs.proofs.Product.{Done}
use Rattle.limbs.proofs.mul_add.Given as goal

abbrev pub invariant-loop-limb : goal.invariant-loop-limb
invariant-loop-limb l = Done l.initial.a l.m l.add l.a l.carry l.limb-index
