-- A fraction strictly between a pattern's midpoints to its neighbours reads as the pattern. Assumes nothing.
use mathlib.Core.Path.{◌≡◌, ◌∙◌, ap}
use Prim.Native.Nat.{ℕ, suc, ◌+◌, ◌-◌, ◌*◌, ◌^◌, ◌≤◌, ◌<◌, min}
use native.Mathlib.Nat.{min-eq_right}
use native.Mathlib.Omega.{arith}
use Rattle.rules.specs.Width.{Width}
use Rattle.rules.specs.Reading.{low, top, unbounded, nearest}
use Rattle.theorems.proofs.Readable.{Readable}
use Rattle.theorems.proofs.Units.{units_of}
use Rattle.theorems.proofs.Unbounded.{only_unbounded}

module _ (w : Width) (r : Readable w) (n d : ℕ) (D : 0 < d) where
  -- Strictly between the midpoints to both neighbours, in units.
  pub between_midpoints : (v : ℕ) → 0 < v → (units_of w.S (v - 1) + units_of w.S v) * d < 2 * (n * 2 ^ low w) →
      2 * (n * 2 ^ low w) < (units_of w.S v + units_of w.S (suc v)) * d → unbounded w n d ≡ v
  between_midpoints v some above under =
      only_unbounded w r n d v D
      (record {
        up = omega arith;
        down = λ q e. let p : q ≡ v - 1 = omega arith in rw p (omega arith);
      })

  -- Below the first midpoint.
  pub below-first : 2 * (n * 2 ^ low w) < (units_of w.S 0 + units_of w.S 1) * d → unbounded w n d ≡ 0
  below-first under = only_unbounded w r n d 0 D (record { up = omega arith; down = λ q e. absurd (omega arith) })

-- Up to the top the nearest pattern is the nearest without a top.
pub up_to_top : (w : Width) (n d v : ℕ) → unbounded w n d ≡ v → v ≤ top w → nearest w n d ≡ v
unfolding nearest
up_to_top w n d v e h = ap (min (top w)) e ∙ min-eq_right h
