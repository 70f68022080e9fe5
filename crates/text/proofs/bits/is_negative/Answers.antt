-- `text::bits::is_negative` meets its contract. Assumes nothing.
use Prim.Native.Nat.{◌/◌, ◌-◌, ◌^◌}
use Rattle.rules.specs.Pattern.{negative}
use Rattle.text.proofs.Masks.{masked}
use Rattle.text.proofs.bits.is_negative.Goals as goal

pub returns : goal.returns
unfolding negative
returns g c = rw (c.bits.ensures.same, c.SIZE.ensures, g.met.P.Pattern.numbers.size_is) (masked (g.P.Pattern.number c.args.pattern / 2 ^ (g.P.Pattern.width.bits - 1)) 1 1)
