-- `places::distance_under` meets its contract. Assumes nothing.
use borrow.Author.Tests.{le-leb, lt-leb}
use Rattle.places.specs.Places.{distance_under}
use Rattle.places.proofs.distance_under.Goals as goal

pub returns-then-n-le8 : goal.returns-then-n-le8
unfolding distance_under
returns-then-n-le8 c = rw (le-leb c.args.n 8 c.if-n-le8.true, distance_under, c.pow10.ensures)

pub returns : goal.returns
unfolding distance_under
returns c = rw (lt-leb c.args.n 8 c.if-n-le8.false, distance_under)
