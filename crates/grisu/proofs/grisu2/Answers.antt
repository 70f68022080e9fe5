-- `grisu::grisu2` meets its contract. Assumes nothing.
use Rattle.grisu.proofs.Deciding.{reread, ready, sum_fits, decided}
use Rattle.grisu.proofs.grisu2.Goals as goal

pub digit_gen-d-requires : goal.digit_gen-d-requires
digit_gen-d-requires g c =
    let p = g.met.P.Pattern.printable in
    ready p c.requires.finite c.scale-s.ensures _ c.requires.nine c.requires.in_bounds g.met.P.Pattern.numbers.product

pub overflow_add-result : goal.overflow_add-result
overflow_add-result g c =
    let p = g.met.P.Pattern.printable in
    let finite = c.requires.finite in
    sum_fits p finite (reread p finite c.scale-s.ensures g.met.P.Pattern.small) c.digit_gen-d.ensures

pub returns : goal.returns
returns g c =
    let p = g.met.P.Pattern.printable in
    let finite = c.requires.finite in
    decided p finite (reread p finite c.scale-s.ensures g.met.P.Pattern.small) c.digit_gen-d.ensures
