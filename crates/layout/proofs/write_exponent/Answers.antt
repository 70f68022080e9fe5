-- `layout::write_exponent` meets its contract: the sign first, then the digits. Assumes nothing.
use native.Mathlib.Omega.{arith}
use mir.Facts.{to_z-of_z}
use Rattle.laws.proofs.Puts.{then, part}
use Rattle.layout.proofs.Signs.{exponent-below, exponent_upward}
use Rattle.layout.proofs.write_exponent.Goals as goal

pub returns-then-k-lt0 : goal.returns-then-k-lt0
returns-then-k-lt0 c =
    rw (exponent-below _ (simp (to_z-of_z c.ranges.k) at c.if-k-lt0.true), ← (rw (to_z-of_z c.ranges.k) at c.unsigned_abs-n.ensures.value))
    (then c.byte-at.ensures (part _ (omega arith) c.write_small.ensures))

pub returns : goal.returns
returns c =
    rw (exponent_upward _ (simp (to_z-of_z c.ranges.k) at c.if-k-lt0.false), ← (rw (to_z-of_z c.ranges.k) at c.unsigned_abs-n.ensures.value))
    c.write_small-2.ensures
