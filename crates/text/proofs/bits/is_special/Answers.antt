-- `text::bits::is_special` meets its contract. Assumes nothing.
use Prim.Native.Nat.{◌/◌, ◌-◌, ◌^◌}
use Rattle.rules.specs.Pattern.{biased, all_ones, special}
use Rattle.text.proofs.Masks.{masked}
use Rattle.text.proofs.bits.is_special.Goals as goal

pub returns : goal.returns
unfolding special biased all_ones
returns g c =
    let w = g.P.Pattern.width in
    let n = g.met.P.Pattern.numbers in
    rw (c.bits.ensures.same, c.FRACTION.ensures, n.fraction_is, c.ONES-ones.ensures, n.ones_is)
    (masked (g.P.Pattern.number c.args.pattern / 2 ^ w.S) (w.bits - 1 - w.S) _)
