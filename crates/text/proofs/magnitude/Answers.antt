-- `text::magnitude` meets its contract: `0.0`, or the digits and their layout. Assumes nothing.
use Rattle.rules.specs.Pattern.{magnitude}
use Rattle.theorems.proofs.Boundaries.{Finite}
use Rattle.text.proofs.Showing.{shows_zero, is_finite, lays, exponent_small, shows}
use Rattle.text.proofs.Spelling.{found, found_not}
use Rattle.text.proofs.magnitude.Given.{Over}
use Rattle.text.proofs.magnitude.Goals as goal
use Rattle.text.proofs.magnitude.Goals.{Else-is_zero}

-- With a bit set the magnitude is more than zero.
finite : (g : Over) (c : Else-is_zero g) → Finite g.P.Pattern.width (magnitude g.P.Pattern.width (g.P.Pattern.number c.args.pattern))
finite g c = is_finite g.met.P.Pattern.printable _ c.requires.finite (found_not c.is_zero.ensures c.if-is_zero.false)

pub returns-then-is_zero : goal.returns-then-is_zero
returns-then-is_zero g c =
    rw (shows_zero g.P.Pattern.width _ (found c.is_zero.ensures c.if-is_zero.true)) c.bytes.ensures

pub grisu2-d-requires-clause-finite : goal.grisu2-d-requires-clause-finite
grisu2-d-requires-clause-finite g c = finite g (goal.at.grisu2-d-requires-clause-finite g c).Else-is_zero

pub prettify-requires : goal.prettify-requires
prettify-requires g c =
    let p = g.met.P.Pattern.printable in
    let f = finite g (goal.at.prettify-requires g c).Else-is_zero in
    record { laying = lays p f c.grisu2-d.ensures c.requires.in_bounds; k_bound = exponent_small p f c.grisu2-d.ensures }

pub returns : goal.returns
returns g c = shows g.met.P.Pattern.printable (finite g (goal.at.returns g c).Else-is_zero) c.grisu2-d.ensures c.prettify.ensures
