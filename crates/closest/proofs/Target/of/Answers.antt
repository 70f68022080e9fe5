-- `closest::Target::of` meets its contract: a kind's constants are the numbers of its width, and have room. Assumes nothing.
use mathlib.Core.Path.{◌∙◌}
use native.Mathlib.Omega.{arith}
use Rattle.rules.specs.Reading.{low}
use Rattle.closest.proofs.Target.of.Goals as goal

pub returns : goal.returns
unfolding low
returns g c =
    let its = g.met.P.Pattern.numbers in
    let fraction = c.FRACTION.ensures ∙ its.fraction_is in
    let ones = c.ONES.ensures ∙ its.ones_is in (
      record { fraction = fraction; base = omega (arith, c.unit.ensures); ones = ones },
      record {
        some = omega (arith, fraction, its.some);
        few = omega (arith, fraction, its.few);
        least = omega (arith, c.unit.ensures, its.unit);
        based = omega (arith, c.unit.ensures);
        field = omega (arith, ones, its.finite);
        most = omega (arith, ones, its.most);
        fits = rw (ones, fraction) its.infinite;
      },
    )
