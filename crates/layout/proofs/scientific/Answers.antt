-- `layout::scientific` meets its contract. Assumes nothing.
use mir.Facts.{to_z-of_z}
use Rattle.layout.proofs.Texts.{one_scientific, more_scientific}
use Rattle.layout.proofs.scientific.Goals as goal

pub returns-then-len-eq1 : goal.returns-then-len-eq1
returns-then-len-eq1 c =
    let e-is = to_z-of_z c.ranges.e in
    one_scientific _ _ c.requires.laying _ c.if-len-eq1.true (rw e-is at c.put_exponent.ensures)

pub returns : goal.returns
returns c =
    let e-is = to_z-of_z c.ranges.e in
    more_scientific _ _ c.requires.laying _ c.if-len-eq1.false c.moved-end.ensures c.byte.ensures
    (rw e-is at c.put_exponent-2.ensures)
