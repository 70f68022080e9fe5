-- `limbs::load` meets its contract. Assumes nothing.
use Rattle.limbs.proofs.Parts.{loaded}
use Rattle.limbs.proofs.load.Goals as goal

pub returns : goal.returns
returns c = loaded _ _ c.requires.in_bounds c.requires.is_zero
