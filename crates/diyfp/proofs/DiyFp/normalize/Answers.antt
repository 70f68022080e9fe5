-- `diyfp::DiyFp::normalize` meets its contract. Assumes nothing.
use mathlib.Core.Path.{◌∙◌}
use native.Mathlib.Omega.{arith}
use Rattle.diyfp.proofs.Shifting.{within, zeros, least_zeros, becomes_by}
use Rattle.diyfp.proofs.DiyFp.normalize.Goals as goal

pub overflow_sub-zeros-2 : goal.overflow_sub-zeros-2
overflow_sub-zeros-2 g c =
    let n = g.met.P.Pattern.numbers in
    rw (c.PAIR.ensures ∙ n.pair_is) (least_zeros n.product (omega (arith, within g.met.P.Pattern.small c.requires)))

-- The zeros of a word, less those above the pair's N bits.
pub returns : goal.returns
returns g c =
    let n = g.met.P.Pattern.numbers in
    let small = g.met.P.Pattern.small in
    becomes_by small c.requires n.product (omega (arith, c.PAIR.ensures, n.pair_is, zeros small c.requires n.product))
