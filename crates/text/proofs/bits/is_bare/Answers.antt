-- `text::bits::is_bare` meets its contract. Assumes nothing.
use mathlib.Core.Path.{◌∙◌}
use native.Mathlib.Omega.{arith}
use Rattle.rules.specs.Pattern.{significand}
use Rattle.text.proofs.Masks.{masked, ones_below}
use Rattle.text.proofs.bits.is_bare.Goals as goal

pub returns : goal.returns
unfolding significand
returns g c =
    let n = g.met.P.Pattern.numbers in
    rw (c.bits.ensures.same, ones_below _ g.P.Pattern.width.S (c.FRACTION.ensures ∙ n.fraction_is) (omega (arith, n.few)))
    (masked (g.P.Pattern.number c.args.pattern) g.P.Pattern.width.S 0)
