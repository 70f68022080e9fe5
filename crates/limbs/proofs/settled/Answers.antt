-- `limbs::settled` meets its contract: each part has the room that the whole has, and the zeros below it are the twos left out. Assumes nothing.
use Rattle.std.proofs.Common.{◌*◌, ◌+◌, ◌≤◌, length, length-take, length-drop, arith}
use Rattle.limbs.proofs.Parts.{part_fits, raised}
use Rattle.limbs.proofs.Standing.{same}
use Rattle.limbs.proofs.settled.Goals as goal

pub put_digits-requires : goal.put_digits-requires
put_digits-requires c = (omega arith, part_fits c.requires.left)

pub put_number-requires : goal.put_number-requires
put_number-requires c =
    let word : 64 + c.args.down.twos ≤ 32 * length c.args.b.now = c.requires.word in
    (omega arith, simp (length-take, length-drop) (omega arith), part_fits c.requires.right)

pub returns : goal.returns
returns c =
    let digits = c.put_digits.ensures in
    let number = c.put_number.ensures in
    same c.compare.result (raised c.requires.left digits).is (raised c.requires.right number).is c.compare.ensures
