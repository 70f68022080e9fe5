-- `layout::put_exponent` meets its contract. Assumes nothing.
use native.Mathlib.Omega.{arith}
use mir.Facts.{to_z-of_z}
use Rattle.laws.proofs.Puts.{then, part}
use Rattle.layout.proofs.put_exponent.Goals as goal

pub returns : goal.returns
returns c =
    let e-is = to_z-of_z c.ranges.e in
    then c.byte-next.ensures (part _ (omega arith) (rw e-is at c.write_exponent.ensures))
