-- The first place that passes is found by H, L, W and x alone: the scaled numbers that are given have the same. Assumes nothing.
use mathlib.Core.Bool.{true, false}
use mathlib.Core.Path.{◌≡◌, refl, ap, ◌∙◌}
use Prim.Native.Nat.{ℕ, zero, suc, ◌-◌, ◌≤◌}
use native.Mathlib.Omega.{arith}
use lib.Dec.{leb, ltb}
use Rattle.rules.specs.Scaled.{Scaled, D}
use Rattle.rules.specs.Digits.{Place, above, under, places_under, places, c, first}
use Rattle.digits.specs.Digits.{given}

-- The same numbers with another index of their power.
abbrev at_index : Scaled → ℕ → Scaled
at_index b i = record { H = b.H; L = b.L; W = b.W; x = b.x; at = i }

same-under : (b : Scaled) (i fuel n : ℕ) → places_under (at_index b i) fuel n ≡ places_under b fuel n
unfolding places_under under D
same-under b i zero n = refl
same-under b i (suc fuel) n =
    ap (λ (f : Place). elim (ltb (under b n).rest (under b n).room) as (λ _. Place) [ true ↦ under b n | false ↦ f ]) (same-under b i fuel (suc n))

same_above : (b : Scaled) (i k : ℕ) → places (at_index b i) k ≡ places b k
unfolding places above D
same_above b i zero = same-under b i b.x 1
same_above b i (suc k) =
    ap (λ (f : Place). elim (leb (above b k).rest (above b k).room) as (λ _. Place) [ true ↦ above b k | false ↦ f ]) (same_above b i k)

-- So the digits of a magnitude's scaled numbers are those that are generated from H, W, D and x.
pub given-first : (b : Scaled) → b.L ≤ b.H → first (given b.H b.W (D b) b.x) ≡ first b
unfolding first c D
given-first b within =
    let low : b.H - (b.H - b.L) ≡ b.L = omega arith in
    ap (λ (l : ℕ). first (record { H = b.H; L = l; W = b.W; x = b.x; at = 0 })) low ∙ same_above b 0 (c b)
