-- `nearest` gives the nearest pattern, and the relation `IsNearest` holds of no other. Assumes nothing.
use mathlib.Core.Path.{◌≡◌, sym, ap}
use mathlib.Core.Logic.{⊎_elim}
use Prim.Native.Nat.{ℕ, ◌+◌, ◌*◌, ◌/◌, ◌%◌, ◌^◌, ◌≤◌, ◌<◌}
use native.Mathlib.Nat.{le_of_eq, le_antisymm, mul-le-mul_left, le_of_mul-le-mul_left}
use native.Mathlib.Decide.{ℕ_discrete}
use native.Mathlib.Omega.{arith}
use lib.Pow.{pow_pos, split}
use Rattle.laws.proofs.Branches.{which}
use Rattle.laws.proofs.Powers.{two_halves}
use Rattle.rules.specs.Width.{Width}
use Rattle.rules.specs.Pattern.{significand}
use Rattle.rules.specs.Reading.{infinity, top, low, apart, miss, IsNearest, unbounded, nearest}
use Rattle.theorems.proofs.Readable.{Readable}
use Rattle.theorems.proofs.Units.{units_of, units_rise}
use Rattle.theorems.proofs.Worth.{miss_units}
use Rattle.theorems.proofs.Rounding.{Best, best, one_best}
use Rattle.theorems.proofs.Unbounded.{unbounded_rounds}

module _ (w : Width) (r : Readable w) where
  -- What is asked of the top: it is no further than the infinity.
  pub top_inside : (v : ℕ) → v ≤ top w → v ≤ infinity w
  unfolding top
  top_inside v h = omega arith

  -- A pattern is even where its significand is.
  pub significand_parity : (v : ℕ) → significand w v % 2 ≡ v % 2
  unfolding significand
  significand_parity v =
      let s = w.S in
      omega (arith, split v s, ap (λ (x : ℕ). v / 2 ^ s * x) (two_halves s r.digits))

  -- ---- the relation, said in units
  module _ (n d : ℕ) where
    -- How many units lie between the fraction and a pattern, times d.
    gap : ℕ → ℕ
    gap x = apart (n * 2 ^ low w) (units_of w.S x * d)

    in_units : (x : ℕ) → x ≤ top w → miss w n d x ≡ 2 ^ (w.N + 1) * gap x
    unfolding gap
    in_units x h = miss_units w r n d x (top_inside x h)

    gap_to_miss : (x y : ℕ) → x ≤ top w → y ≤ top w → gap x ≤ gap y → miss w n d x ≤ miss w n d y
    gap_to_miss x y a b h = rw (in_units x a, in_units y b) (mul-le-mul_left (2 ^ (w.N + 1)) h)

    miss_to_gap : (x y : ℕ) → x ≤ top w → y ≤ top w → miss w n d x ≤ miss w n d y → gap x ≤ gap y
    miss_to_gap x y a b h = le_of_mul-le-mul_left (rw (in_units x a, in_units y b) at h) (pow_pos (w.N + 1))

    module _ (v : ℕ) where
      -- The pattern whose units are the best is the nearest.
      best_is_nearest : Best (units_of w.S) (n * 2 ^ low w) d (top w) v → IsNearest w n d v
      unfolding gap
      best_is_nearest b =
          record {
            inside = b.inside;
            nearest = λ x h. no_further x h (ℕ_discrete x v);
            even = λ x h ne e.
                omega (arith, significand_parity v, b.nearer x h ne, miss_to_gap x v h b.inside (le_of_eq (sym e)));
          }
        where
          no_further : (x : ℕ) → x ≤ top w → Dec (x ≡ v) → miss w n d v ≤ miss w n d x
          no_further x h (yes e) = le_of_eq (ap (miss w n d) (sym e))
          no_further x h (no ne) = gap_to_miss v x b.inside h (omega (arith, b.nearer x h ne))

      -- The units of the nearest pattern are the best.
      nearest_is_best : IsNearest w n d v → Best (units_of w.S) (n * 2 ^ low w) d (top w) v
      unfolding gap
      nearest_is_best i =
          record {
            inside = i.inside;
            nearer = λ x h ne.
                let near : gap v ≤ gap x = miss_to_gap v x i.inside h (i.nearest x h) in
                ⊎_elim (λ (l : gap v < gap x). omega arith)
                (λ (l : gap x ≤ gap v).
                let tie = le_antisymm (i.nearest x h) (gap_to_miss x v h i.inside l) in
                omega (arith, significand_parity v, i.even x h ne tie))
                (which (gap v) (gap x));
          }

  -- ---- the function and the relation, both ways
  nearest_best : (n d : ℕ) → 0 < d → Best (units_of w.S) (n * 2 ^ low w) d (top w) (nearest w n d)
  unfolding nearest
  nearest_best n d D =
      best (units_of w.S) (units_rise w.S) (n * 2 ^ low w) d (unbounded w n d) D (unbounded_rounds w r n d D) (top w)

  -- The function gives the nearest pattern.
  pub nearest_is_nearest : (n d : ℕ) → 0 < d → IsNearest w n d (nearest w n d)
  nearest_is_nearest n d D = best_is_nearest n d (nearest w n d) (nearest_best n d D)

  -- No other pattern is the nearest.
  pub only_nearest : (n d v : ℕ) → 0 < d → IsNearest w n d v → v ≡ nearest w n d
  only_nearest n d v D h =
      one_best (units_of w.S) (units_rise w.S) (n * 2 ^ low w) d (top w) v (nearest w n d) D (nearest_is_best n d v h)
      (nearest_best n d D)
