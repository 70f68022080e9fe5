-- Which rule lays digits out, told by natural numbers: what the length and the reading of a text go by. Assumes nothing.
use mathlib.Core.Bool.{true, ◌&&◌}
use mathlib.Core.List.{List, ◌∷◌, ◌++◌}
use mathlib.Core.Path.{◌≡◌, refl, sym, ap}
use Prim.Native.Nat.{ℕ, zero, suc, ◌+◌, ◌-◌, ◌≤◌, ◌<◌}
use native.Mathlib.Omega.{arith}
use lib.Dec.{leb, ltb, leb→le, ltb→lt, nleb→lt, nltb→le, le→leb}
use lib.IntN.{ℤ, pos, negsuc, sub_ℕ}
use lib.ListN.{length, take, drop}
use Rattle.laws.proofs.Branches.{either, and_left, and_right, and_not_left, and_not_right}
use Rattle.laws.proofs.Differences as difference
use Rattle.rules.specs.Bytes.{bytes, byte0, point}
use Rattle.rules.specs.Layout.{zeros, scientific, by_rule, layout}

-- The text t is the layout of the digits ds and the exponent k.
pub data Laid (ds : List ℕ) (k : ℤ) (t : List ℕ) : Type 0 where
  -- rule 1: n zeros behind the digits
  whole : (n : ℕ) → k ≡ pos n → length ds + n ≤ 21 → t ≡ ds ++ (zeros n ++ bytes ".0") → Laid ds k t
  -- rule 2: r of the digits behind the point, and p before it
  inner : (p r : ℕ) → k ≡ sub_ℕ 0 r → 0 < r → p + r ≡ length ds → 0 < p → p ≤ 21 → t ≡ take p ds ++ (point ∷ drop p ds) → Laid ds k t
  -- rule 3: z zeros between the point and the digits
  small : (z : ℕ) → k ≡ sub_ℕ 0 (z + length ds) → z < 6 → t ≡ byte0 ∷ point ∷ (zeros z ++ ds) → Laid ds k t
  -- rules 5 and 6, with an exponent from 21 on
  large : (n : ℕ) → k ≡ pos n → 21 < length ds + n → t ≡ scientific ds (pos (length ds + n - 1)) → Laid ds k t
  -- rules 5 and 6, with an exponent below -6
  minute : (z : ℕ) → k ≡ sub_ℕ 0 (z + length ds) → 6 ≤ z → t ≡ scientific ds (negsuc z) → Laid ds k t

module _ (ds : List ℕ) (some : 0 < length ds) (short : length ds ≤ 21) where
  -- k is not below zero
  upward : (n : ℕ) → Laid ds (pos n) (by_rule ds (pos n) (pos (length ds + n)))
  unfolding by_rule
  upward n =
      let fits = leb (length ds + n) 21 in
      either (Laid ds (pos n)) (leb 0 n && fits)
      (λ t. whole n refl (leb→le (length ds + n) 21 (and_right (leb 0 n) fits t)) refl)
      (λ t.
      let wide : 21 < length ds + n = nleb→lt (length ds + n) 21 (and_not_right (leb 0 n) fits (le→leb 0 n (omega arith)) t) in
      either (Laid ds (pos n)) (ltb 0 (length ds + n) && fits)
      (λ u. absurd (omega (arith, leb→le (length ds + n) 21 (and_right (ltb 0 (length ds + n)) fits u))))
      (λ u.
      either (Laid ds (pos n)) (leb (length ds + n) 0) (λ v. absurd (omega (arith, leb→le (length ds + n) 0 v)))
      (λ v. large n refl wide (ap (scientific ds) (sym (difference.is_pos (length ds + n - 1) (length ds + n) 1 (omega arith)))))))

  -- k = -r is below zero, and kk = p is above it
  within : (p m : ℕ) → p + suc m ≡ length ds → 0 < p → Laid ds (negsuc m) (by_rule ds (negsuc m) (pos p))
  unfolding by_rule
  within p m e h =
      either (Laid ds (negsuc m)) (ltb 0 p && leb p 21)
      (λ t. inner p (suc m) (difference.is_negsuc m 0 (suc m) (omega arith)) (omega arith) e h (omega arith) refl)
      (λ t. absurd (omega (arith, nltb→le 0 p (and_not_left (ltb 0 p) (leb p 21) (le→leb p 21 (omega arith)) t))))

  -- k is below zero, and kk is zero
  level : (m : ℕ) → length ds ≡ suc m → Laid ds (negsuc m) (by_rule ds (negsuc m) (pos 0))
  unfolding by_rule
  level m e = small 0 (difference.is_negsuc m 0 (0 + length ds) (omega arith)) (omega arith) refl

  -- kk = -z is below zero
  downward : (y m : ℕ) → suc y + length ds ≡ suc m → Laid ds (negsuc m) (by_rule ds (negsuc m) (negsuc y))
  unfolding by_rule
  downward y m e =
      let is : negsuc m ≡ sub_ℕ 0 (suc y + length ds) = difference.is_negsuc m 0 (suc y + length ds) (omega arith) in
      either (Laid ds (negsuc m)) (ltb y 5 && true) (λ t. small (suc y) is (omega (arith, ltb→lt y 5 (and_left (ltb y 5) true t))) refl)
      (λ t. minute (suc y) is (omega (arith, nltb→le y 5 (and_not_left (ltb y 5) true tt t))) (ap (λ (n : ℕ). scientific ds (negsuc (suc n))) (omega arith)))

-- Every text that a layout gives is one of these.
pub laid : (ds : List ℕ) (k : ℤ) → 0 < length ds → length ds ≤ 21 → Laid ds k (layout ds k)
unfolding layout
laid ds (pos n) some short = upward ds some short n
laid ds (negsuc m) some short =
    difference.cases (λ kk. Laid ds (negsuc m) (by_rule ds (negsuc m) kk)) (length ds) (suc m)
    (λ l. downward ds some short (suc m - suc (length ds)) m (omega arith))
    (λ l. by_kk (length ds - suc m) (omega arith))
  where
    by_kk : (p : ℕ) → p + suc m ≡ length ds → Laid ds (negsuc m) (by_rule ds (negsuc m) (pos p))
    by_kk zero e = level ds some short m (omega arith)
    by_kk (suc p) e = within ds some short (suc p) m e (omega arith)
