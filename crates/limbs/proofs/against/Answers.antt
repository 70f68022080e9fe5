-- `limbs::against` meets its contract: the limbs used have room for both sides. Assumes nothing.
use Rattle.std.proofs.Common.{◌+◌, ◌-◌, ◌*◌, ◌/◌, length, refl, length-take, arith}
use Rattle.limbs.proofs.Digits.{digits_width}
use Rattle.limbs.proofs.Standing.{with_twos}
use Rattle.limbs.proofs.Width.{ready}
use Rattle.limbs.proofs.against.Goals as goal

pub settled-requires : goal.settled-requires
settled-requires c =
    let wide = 4 * length c.args.digits.now in
    let used = c.max.result / 32 + 1 in
    record {
      alike = refl;
      word = simp length-take (omega arith);
      left = ready 112 used _ wide _ _ (omega arith) (digits_width c.args.digits.now) (omega arith);
      right = ready 112 used c.args.m 64 _ _ (omega arith) (omega arith) (omega arith);
    }

pub returns : goal.returns
returns c =
    let by = c.args.by.twos in
    let other = c.args.other.twos in
    with_twos c.settled.result _ _ by other _ _ (by - (by - other)) (omega arith) (omega arith) c.settled.ensures
