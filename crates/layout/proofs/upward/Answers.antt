-- `layout::upward` meets its contract: rules 1, 5 and 6. Assumes nothing.
use mathlib.Core.Path.{◌≡◌}
use Prim.Native.Nat.{◌+◌, ◌-◌}
use native.Mathlib.Omega.{arith}
use lib.IntN.{pos}
use mir.Facts.{to_z_pos}
use mir.Syntax.{w32}
use mir.Val.{to_z}
use Rattle.layout.proofs.Ruled as ruled
use Rattle.layout.proofs.Texts.{digits_long}
use Rattle.layout.proofs.upward.Goals as goal
use Rattle.layout.proofs.upward.Goals.{Start}

exponent : (c : Start) → to_z w32 (c.args.len + c.args.k - 1) ≡ pos (c.args.len + c.args.k - 1)
exponent c = to_z_pos w32 (omega arith)

pub returns-then-len-k-le21 : goal.returns-then-len-k-le21
returns-then-len-k-le21 c =
    rw (ruled.whole _ (digits_long _ _ c.requires.laying) c.requires.laying.some _ c.if-len-k-le21.true) c.whole.ensures

pub returns : goal.returns
returns c =
    rw (ruled.large _ (digits_long _ _ c.requires.laying) c.requires.laying.some _ c.if-len-k-le21.false)
    (rw (exponent c.before.before.before.before.before.before.before) at c.scientific.ensures)
