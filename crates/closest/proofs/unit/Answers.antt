-- `closest::unit` meets its contract. Assumes nothing.
use native.Mathlib.Omega.{arith}
use Rattle.rules.specs.Reading.{low}
use Rattle.closest.proofs.unit.Goals as goal

pub returns : goal.returns
unfolding low
returns g c =
    let k = g.met.P.Pattern.numbers in
    omega (arith, c.BIAS.ensures, c.FRACTION.ensures, k.bias_is, k.fraction_is, k.unit, k.some)
