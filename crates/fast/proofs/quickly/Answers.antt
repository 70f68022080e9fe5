-- `fast::quickly` meets its contract: digits without their last zeros are the same number. Assumes nothing.
use mathlib.Core.Path.{ap, ◌∙◌}
use Prim.Native.Nat.{ℕ, ◌+◌, ◌^◌}
use native.Mathlib.Omega.{arith}
use Rattle.rules.specs.Reading.{nearest}
use Rattle.rules.specs.Width.{w64}
use Rattle.fast.proofs.Places.{trimmed_same}
use Rattle.fast.proofs.quickly.Goals as goal

pub returns-then-t-le-LAST : goal.returns-then-t-le-LAST
returns-then-t-le-LAST c =
    let t = c.trim-t in
    λ up down at.
    c.scaled.ensures (up + t.ensures.zeros) down (omega (arith, t.ensures.place_is))
    ∙ ap (λ (n : ℕ). nearest w64 n (10 ^ down)) (trimmed_same c.args.digits c.args.place up down at _ _ t.ensures)
