-- `unbounded` rounds a fraction, counted in units, to the nearest pattern, ties to the even one. Assumes nothing.
use mathlib.Core.Path.{◌≡◌, refl, ap}
use mathlib.Core.Logic.{⊎_elim}
use Prim.Native.Nat.{ℕ, suc, ◌+◌, ◌-◌, ◌*◌, ◌/◌, ◌%◌, ◌^◌, ◌≤◌, ◌<◌, compare}
use native.Mathlib.Nat.{le_trans, le_of_eq, eq-or-lt_of_le, div-div-eq-div-mul, le-div_iff_mul-le, pow-succ'}
use native.Mathlib.Nat.{mul-pos, mul-le-mul_right, mul-lt-mul_of_pos_right}
use native.Mathlib.Omega.{arith}
use lib.Ieee.{size}
use lib.Ieee.Digits.{size_reaches}
use lib.Ieee.Fits.{kept-lt, nearest-le}
use lib.Ieee.Nearest.{closest, nearest-ge}
use lib.Pow.{pow_pos, pow-add}
use Rattle.laws.proofs.Branches.{which}
use Rattle.laws.proofs.Closest.{Closest, is_closest}
use Rattle.laws.proofs.Powers.{two_halves}
use Rattle.rules.specs.Width.{Width}
use Rattle.rules.specs.Reading.{low, unbounded}
use Rattle.theorems.proofs.Readable.{Readable}
use Rattle.theorems.proofs.Units.{units_of, units_at, units_rise}
use Rattle.theorems.proofs.Rounding.{Rounds, rises, order, one_place}

-- ---- the digits that are kept

-- How many binary digits of the whole part of n / d are cut off.
unfoldable pub cut : ℕ → ℕ → ℕ → ℕ
cut s n d = size (n / d) - suc s

-- What is kept of n / d, rounded once.
unfoldable pub kept : ℕ → ℕ → ℕ → ℕ
kept s n d = closest n (d * 2 ^ cut s n d)

module _ (s n d : ℕ) where
  -- At most S + 1 digits are kept, or the next power of two.
  pub kept_fits : kept s n d ≤ 2 * 2 ^ s
  unfolding kept cut
  kept_fits =
      let k = cut s n d in
      let u = d * 2 ^ k in
      let h : n / u < 2 * 2 ^ s = rw (← div-div-eq-div-mul n d (2 ^ k), ← pow-succ' 2 s) (kept-lt (suc s) (n / d)) in
      omega (arith, nearest-le (n / u) (compare (n % u * 2) u))

  -- Where digits are cut off, S + 1 stand before them.
  full : 0 < cut s n d → 2 ^ s ≤ n / (d * 2 ^ cut s n d)
  unfolding cut
  full h =
      let k = cut s n d in
      let l : 2 ^ s * 2 ^ k ≤ n / d = rw (← pow-add 2 s k) (size_reaches (n / d) (s + k) (omega arith)) in
      rw (← div-div-eq-div-mul n d (2 ^ k)) ((le-div_iff_mul-le (pow_pos k)).1 l)

  -- What is kept then has the hidden bit.
  pub kept_hidden : 0 < cut s n d → 2 ^ s ≤ kept s n d
  unfolding kept
  kept_hidden h = let u = d * 2 ^ cut s n d in le_trans (full h) (nearest-ge (n / u) (compare (n % u * 2) u))

  full_units : 0 < d → 0 < cut s n d → 2 ^ s * (d * 2 ^ cut s n d) ≤ n
  full_units D h = (le-div_iff_mul-le (mul-pos D (pow_pos (cut s n d)))).0 (full h)

-- ---- where q is the closest to n / d at the place k, the pattern v = k * 2^s + q is the nearest
module _ (s k q v : ℕ) (is : k * 2 ^ s + q ≡ v) (fits : q ≤ 2 * 2 ^ s) (hidden : 0 < k → 2 ^ s ≤ q) where
  here : units_of s v ≡ q * 2 ^ k
  here = units_at s v k q is fits hidden

  same_parity : 0 < s → v % 2 ≡ q % 2
  same_parity S = omega (arith, ap (λ (x : ℕ). k * x) (two_halves s S))

  step_up : units_of s v + 2 ^ k ≤ units_of s (suc v)
  step_up =
      ⊎_elim
      (λ (e : q ≡ 2 * 2 ^ s).
      let b = units_at s (suc v) (suc k) (suc (2 ^ s)) (omega arith) (omega (arith, pow_pos s)) (λ h. omega arith) in
      omega (arith, here, ap (λ (x : ℕ). x * 2 ^ k) e, rw (pow-succ' 2 k) at b))
      (λ (l : q < 2 * 2 ^ s). omega (arith, here, units_at s (suc v) k (suc q) (omega arith) l (λ h. omega (arith, hidden h))))
      (eq-or-lt_of_le fits)

  step_down : (r : ℕ) → suc r ≡ v → 0 < q → (0 < k → 2 ^ s < q) → units_of s r + 2 ^ k ≡ units_of s v
  step_down r e pos h =
      let f : q ≡ suc (q - 1) = omega arith in
      omega (arith, here, units_at s r k (q - 1) (omega arith) (omega arith) (λ z. omega (arith, h z)), ap (λ (x : ℕ). x * 2 ^ k) f)

  module _ (n d : ℕ) (S : 0 < s) (D : 0 < d) (near : Closest n (d * 2 ^ k) q) (reached : 0 < k → 2 ^ s * (d * 2 ^ k) ≤ n) where
    below : (r : ℕ) → suc r ≡ v → (units_of s r + units_of s v) * d + v % 2 ≤ 2 * n
    below r e =
        ⊎_elim (λ l. even_step (omega arith) (λ z. l))
        (λ l. ⊎_elim (λ z. even_step (first z) (λ h. absurd (omega arith))) (λ z. power l z) (which k 1))
        (which (2 ^ s) q)
      where
        first : k < 1 → 0 < q
        first z = let none : k ≡ 0 = omega arith in omega (arith, ap (λ (x : ℕ). x * 2 ^ s) none)

        even_step : 0 < q → (0 < k → 2 ^ s < q) → (units_of s r + units_of s v) * d + v % 2 ≤ 2 * n
        even_step pos h =
            omega (arith, near.down, same_parity S, ap (λ (x : ℕ). x * d) here, ap (λ (x : ℕ). x * d) (step_down r e pos h))

        power : q ≤ 2 ^ s → 0 < k → (units_of s r + units_of s v) * d + v % 2 ≤ 2 * n
        power l z =
            let le : units_of s r < units_of s v = rises (units_of s) (units_rise s) (le_of_eq e) in
            omega (arith, reached z, mul-lt-mul_of_pos_right le D, mul-le-mul_right (2 ^ k * d) l, ap (λ (x : ℕ). x * d) here)

    rounds_at : Rounds (units_of s) n d v
    rounds_at =
        record {
          up = omega (arith, near.up, same_parity S, mul-le-mul_right d step_up, ap (λ (x : ℕ). x * d) here);
          down = below;
        }

-- ---- over the width
module _ (w : Width) (r : Readable w) where
  -- The nearest pattern without a top is the one that its units round to.
  pub unbounded_rounds : (n d : ℕ) → 0 < d → Rounds (units_of w.S) (n * 2 ^ low w) d (unbounded w n d)
  unfolding unbounded cut kept
  unbounded_rounds n d D =
      let s = w.S in
      let u = n * 2 ^ low w in
      let k = cut s u d in
      rounds_at s k (kept s u d) (unbounded w n d) refl (kept_fits s u d) (kept_hidden s u d) u d r.digits D
      (is_closest u (d * 2 ^ k) (mul-pos D (pow_pos k))) (full_units s u d D)

  -- No other pattern is.
  pub only_unbounded : (n d v : ℕ) → 0 < d → Rounds (units_of w.S) (n * 2 ^ low w) d v → unbounded w n d ≡ v
  only_unbounded n d v D h =
      one_place (units_of w.S) (units_rise w.S) (n * 2 ^ low w) d (unbounded w n d) v D (unbounded_rounds n d D) h

  -- It does not fall as the fraction rises.
  pub unbounded_mono : (a b c d : ℕ) → 0 < b → 0 < d → a * d ≤ c * b → unbounded w a b ≤ unbounded w c d
  unbounded_mono a b c d B D h =
      order (units_of w.S) (units_rise w.S) (a * 2 ^ low w) b (c * 2 ^ low w) d (unbounded w a b) (unbounded w c d) B D
      (unbounded_rounds a b B) (unbounded_rounds c d D) (omega (arith, mul-le-mul_right (2 ^ low w) h))
