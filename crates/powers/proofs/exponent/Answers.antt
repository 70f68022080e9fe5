-- `powers::exponent` meets its contract. Assumes nothing.
use native.Mathlib.Omega.{arith}
use Rattle.powers.proofs.Casts.{cast}
use Rattle.powers.proofs.Slopes.{exponent}
use Rattle.powers.proofs.exponent.Goals as goal

pub returns : goal.returns
returns g c =
    let tabled = g.met.P.Powers.tabled in
    let small = g.met.P.Pattern.small.sum in
    let twos = cast c.TWOS.result g.P.Pattern.width.twos (omega (arith, c.TWOS.ensures, tabled.twos_is)) (omega (arith, c.TWOS.ensures, tabled.twos_is, small)) in
    rw (c.START.ensures, twos)
    (exponent g.P.Pattern.width g.P.Powers.START _ tabled.on_line c.args.i c.requires (omega (arith, c.requires, small, tabled.begins)) (omega (arith, small)))
