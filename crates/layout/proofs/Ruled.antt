-- The layout of digits and an exponent, by the natural numbers that tell its rule. Assumes nothing.
use mathlib.Core.Path.{◌≡◌, refl, sym, ap, ◌∙◌}
use mathlib.Core.List.{List, ◌∷◌, ◌++◌}
use Prim.Native.Nat.{ℕ, zero, suc, ◌+◌, ◌-◌, ◌≤◌, ◌<◌}
use native.Mathlib.Nat.{add-zero}
use native.Mathlib.Omega.{arith}
use lib.Dec.{leb-zero}
use lib.IntN.{ℤ, pos, negsuc, sub_ℕ}
use lib.ListN.{length, take, drop}
use borrow.Author.Tests.{le-leb, lt-leb, lt-ltb, le-ltb}
use Rattle.laws.proofs.Differences as difference
use Rattle.rules.specs.Bytes.{bytes, byte0, point}
use Rattle.rules.specs.Layout.{zeros, scientific, by_rule, layout}

module _ (ds : List ℕ) {len : ℕ} (long : length ds ≡ len) (some : 0 < len) where
  -- Rule 1: n zeros stand behind the digits.
  pub whole : (n : ℕ) → len + n ≤ 21 → layout ds (pos n) ≡ ds ++ (zeros n ++ bytes ".0")
  unfolding layout by_rule
  whole n fits = rw (leb-zero n, by_rule, le-leb (length ds + n) 21 (omega arith))

  -- Rules 5 and 6, with an exponent above zero.
  pub large : (n : ℕ) → 21 < len + n → layout ds (pos n) ≡ scientific ds (pos (len + n - 1))
  unfolding layout by_rule
  large n wide =
      let kk = length ds + n in
      let wide_is = lt-leb kk 21 (omega arith) in
      rw (leb-zero n, by_rule, wide_is, lt-ltb 0 kk (omega arith), wide_is, lt-leb kk 0 (omega arith))
      (ap (scientific ds) (sym (difference.is_pos (len + n - 1) kk 1 (omega arith))))

  -- Below zero, k is -r, and kk a difference.
  from_below : (r : ℕ) → 0 < r → {kk : ℤ} {t : List ℕ} → kk ≡ sub_ℕ len r → by_rule ds (negsuc (r - 1)) kk ≡ t → layout ds (sub_ℕ 0 r) ≡ t
  unfolding layout
  from_below r below kk-is rule =
      let is : suc (r - 1) ≡ r = omega arith in
      ap (layout ds) (sym (difference.is_negsuc (r - 1) 0 r (omega arith))) ∙ rw (is, long, ← kk-is) rule

  -- Rule 2: p digits stand before the point, and r behind it.
  pub inner : (p r : ℕ) → 0 < r → p + r ≡ len → 0 < p → p ≤ 21 → layout ds (sub_ℕ 0 r) ≡ take p ds ++ (point ∷ drop p ds)
  unfolding by_rule
  inner p r below sum before fits =
      from_below r below (difference.is_pos p len r sum) (rw (lt-ltb 0 p before, by_rule, le-leb p 21 fits))

  -- Rule 3: z zeros stand between the point and the digits.
  pub small : (z r : ℕ) → z + len ≡ r → z < 6 → layout ds (sub_ℕ 0 r) ≡ byte0 ∷ point ∷ (zeros z ++ ds)
  unfolding by_rule zeros
  small zero r sum near = from_below r (omega arith) (difference.is_pos 0 len r (omega arith)) refl
  small (suc y) r sum near = from_below r (omega arith) (difference.is_negsuc y len r sum) (rw (lt-ltb y 5 (omega arith), by_rule))

  -- Rules 5 and 6, with an exponent below zero.
  pub minute : (z r : ℕ) → z + len ≡ r → 6 ≤ z → layout ds (sub_ℕ 0 r) ≡ scientific ds (negsuc z)
  unfolding by_rule
  minute zero r sum far = absurd (omega arith)
  minute (suc y) r sum far =
      from_below r (omega arith) (difference.is_negsuc y len r sum)
      (rw (le-ltb y 5 (omega arith), by_rule, add-zero))
