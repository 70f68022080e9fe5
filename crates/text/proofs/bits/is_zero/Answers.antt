-- `text::bits::is_zero` meets its contract. Assumes nothing.
use mathlib.Core.Path.{◌∙◌}
use Prim.Native.Nat.{◌-◌}
use native.Mathlib.Omega.{arith}
use Rattle.text.proofs.Masks.{masked, ones_below, magnitude_zero}
use Rattle.text.proofs.bits.is_zero.Goals as goal

pub returns : goal.returns
returns g c =
    let w = g.P.Pattern.width in
    let n = g.met.P.Pattern.numbers in
    let v = g.P.Pattern.number c.args.pattern in
    rw (c.bits.ensures.same, ones_below (c.SIZE.result - 1) (w.bits - 1) (omega (arith, c.SIZE.ensures, n.size_is)) (omega (arith, n.word, n.field)))
    (masked v (w.bits - 1) 0 ∙ magnitude_zero w g.met.P.Pattern.printable.readable v)
