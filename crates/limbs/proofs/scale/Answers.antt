-- `limbs::scale` meets its contract. Assumes nothing.
use Rattle.std.proofs.Common.{add-zero}
use Rattle.std.proofs.lemmas.Nat.{one_shl, pow_pos}
use Rattle.limbs.proofs.Low.{same-room}
use Rattle.limbs.proofs.Scaled.{without}
use Rattle.limbs.proofs.scale.Goals as goal

pub times_fives-requires : goal.times_fives-requires
times_fives-requires c = without _ _ _ (pow_pos c.args.by.twos) c.requires.product_fits

pub mul_add-requires : goal.mul_add-requires
mul_add-requires c =
    let g = c.times_fives in
    rw (one_shl c.args.by.twos 32 c.requires.twos_bound, g.ensures.is, add-zero, same-room g.new.a c.args.a.now g.ensures.same) c.requires.product_fits
