-- `limbs::put_digits` meets its contract. Assumes nothing.
use Rattle.limbs.proofs.Scaled.{bare, room_left}
use Rattle.limbs.proofs.put_digits.Goals as goal

pub load_digits-requires : goal.load_digits-requires
load_digits-requires c = (c.requires.1.clear, bare c.requires.1)

pub scale-requires-clause-product_fits : goal.scale-requires-clause-product_fits
scale-requires-clause-product_fits c = room_left c.requires.1 c.load_digits.ensures
