-- `layout::downward` meets its contract: rules 2, 3, 5 and 6. Assumes nothing.
use mathlib.Core.Path.{◌≡◌, sym}
use Prim.Native.Nat.{ℕ, ◌+◌, ◌-◌, ◌^◌, ◌<◌}
use native.Mathlib.Omega.{arith}
use lib.IntN.{negsuc, pos, ◌-ℤ◌}
use mir.Facts.{to_z-of_z}
use mir.Syntax.{w32}
use mir.Val.{of_z, to_z}
use Rattle.laws.proofs.Differences.{is_negsuc}
use Rattle.layout.proofs.Ruled as ruled
use Rattle.laws.proofs.Signed.{minus, minus_fits}
use Rattle.layout.proofs.Texts.{digits_long}
use Rattle.layout.proofs.downward.Goals as goal

-- The exponent below zero.
exponent : (z : ℕ) → z + 1 < 2 ^ 31 → to_z w32 (of_z w32 (pos 0 -ℤ to_z w32 (z + 1))) ≡ negsuc z
exponent z near = rw (minus _ near, to_z-of_z (minus_fits _ near)) (sym (is_negsuc z 0 (z + 1) (omega arith)))

pub returns-then-k-len : goal.returns-then-k-len
returns-then-k-len c =
    rw (ruled.inner _ (digits_long _ _ c.requires.laying) c.requires.laying.some (c.args.len - c.args.k) _ c.requires.k_nonzero (omega arith) (omega arith) (omega arith))
    c.inner.ensures

pub returns-then-zeros-lt6 : goal.returns-then-zeros-lt6
returns-then-zeros-lt6 c =
    rw (ruled.small _ (digits_long _ _ c.requires.laying) c.requires.laying.some (c.args.k - c.args.len) c.args.k (omega arith) c.if-zeros-lt6.true)
    c.small.ensures

pub returns : goal.returns
returns c =
    rw (ruled.minute _ (digits_long _ _ c.requires.laying) c.requires.laying.some (c.args.k - c.args.len) c.args.k (omega arith) c.if-zeros-lt6.false)
    (rw (exponent (c.args.k - c.args.len) (omega arith)) at c.scientific.ensures)
