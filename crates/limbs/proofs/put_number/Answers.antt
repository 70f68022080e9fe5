-- `limbs::put_number` meets its contract. Assumes nothing.
use Rattle.limbs.proofs.Scaled.{room_left}
use Rattle.limbs.proofs.put_number.Goals as goal

pub scale-requires-clause-product_fits : goal.scale-requires-clause-product_fits
scale-requires-clause-product_fits c = room_left c.requires.2 c.load.ensures
