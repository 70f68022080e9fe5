-- Where a fraction stands to the midpoint between a pattern and the next one decides which of them it reads as, and the top rule. Assumes nothing.
use mathlib.Core.Logic.{⊎_elim}
use mathlib.Core.Path.{◌≡◌, sym, ap, ◌∙◌}
use Prim.Native.Nat.{ℕ, suc, ◌+◌, ◌-◌, ◌*◌, ◌%◌, ◌^◌, ◌≤◌, ◌<◌}
use native.Mathlib.Nat.{eq-or-lt_of_le, le_of_eq, le_of_mul-le-mul_right, lt_of_mul-lt-mul_right, mul-pos, mul-le-mul_right, mul-lt-mul_of_pos_right, pow-succ'}
use native.Mathlib.Omega.{arith}
use lib.Pow.{pow_pos}
use Rattle.laws.proofs.Branches.{which}
use Rattle.laws.proofs.Powers.{two_halves}
use Rattle.rules.specs.Width.{Width, off}
use Rattle.rules.specs.Pattern.{all_ones}
use Rattle.rules.specs.Reading.{infinity, low, top, worth, unbounded, nearest}
use Rattle.rules.specs.Midpoints.{midpoint_above}
use Rattle.theorems.proofs.Readable.{Readable}
use Rattle.theorems.proofs.Units.{units_of, place, units_rise}
use Rattle.theorems.proofs.Worth.{no_sign, bare_is, worth_bare, off_units}
use Rattle.theorems.proofs.Rounding.{Rounds, keeps, rises}
use Rattle.theorems.proofs.Unbounded.{unbounded_rounds}

-- ---- a place p of a rising sequence that a fraction rounds to, and the midpoint between x and the next place
module _ (u : ℕ → ℕ) (rise : (v : ℕ) → u v < u (suc v)) (n d p x : ℕ) (D : 0 < d) (r : Rounds u n d p) where
  middle : ℕ
  middle = (u x + u (suc x)) * d

  -- Above the midpoint it rounds to a later place.
  past : middle < 2 * n → x < p
  unfolding middle
  past h =
      ⊎_elim (λ l. l)
      (λ (l : p ≤ x).
      let next = keeps u rise {x = suc p} {y = suc x} (omega arith) in
      absurd (omega (arith, r.up, mul-le-mul_right d (keeps u rise l), mul-le-mul_right d next)))
      (which x p)

  -- Below it to no later one.
  short : 2 * n < middle → p ≤ x
  unfolding middle
  short h =
      ⊎_elim
      (λ (l : x < p).
      let q = p - 1 in
      let near : x ≤ q = omega arith in
      absurd (omega (arith, r.down q (omega arith), mul-le-mul_right d (keeps u rise near), mul-le-mul_right d (keeps u rise l))))
      (λ l. l) (which x p)

  -- At the midpoint to the even one of the two.
  tied : 2 * n ≡ middle → p ≡ x + x % 2
  unfolding middle
  tied e =
      ⊎_elim
      (λ (l : p < x).
      let next : suc p ≤ x = l in
      absurd (omega (arith, r.up, mul-lt-mul_of_pos_right (rises u rise l) D, mul-le-mul_right d (keeps u rise {x = suc p} {y = suc x} (omega arith)))))
      (λ (l : x ≤ p).
      ⊎_elim (λ (m : p < suc x). let same : p ≡ x = omega arith in at_place same r.up)
      (λ (m : suc x ≤ p).
      ⊎_elim
      (λ (far : suc x < p).
      let q = p - 1 in
      let near : x < q = omega arith in
      absurd (omega (arith, r.down q (omega arith), mul-lt-mul_of_pos_right (rises u rise near) D, mul-le-mul_right d (keeps u rise m))))
      (λ near. let same : suc x ≡ p = omega arith in at_next same (r.down x same)) (which (suc x) p))
      (which p (suc x)))
      (which p x)
    where
      at_place : p ≡ x → 2 * n + p % 2 ≤ (u p + u (suc p)) * d → p ≡ x + x % 2
      at_place same up = let here = rw same at up in omega (arith, here)

      at_next : suc x ≡ p → (u x + u p) * d + p % 2 ≤ 2 * n → p ≡ x + x % 2
      at_next same down = let here = rw (← same) at down in omega (arith, here)

-- ---- over the width

-- Twice the midpoint between a pattern and the next one, in units.
unfoldable pub midpoint : Width → ℕ → ℕ
midpoint w x = units_of w.S x + units_of w.S (suc x)

-- It is that of a pattern with significand q at the place k ..
pub midpoint_at : (w : Width) (p k q : ℕ) → k * 2 ^ w.S + q ≡ p → q < 2 * 2 ^ w.S → (0 < k → 2 ^ w.S ≤ q) →
    midpoint w p ≡ (2 * q + 1) * 2 ^ k
unfolding midpoint place
midpoint_at w p k q is fits hidden = let s = place w.S k q p is fits hidden in omega (arith, s.units, s.next)

-- .. and no lower where a carry makes q twice the hidden bit.
pub midpoint_least : (w : Width) (p k q : ℕ) → k * 2 ^ w.S + q ≡ p → 2 ^ w.S ≤ q → q ≤ 2 * 2 ^ w.S → (2 * q + 1) * 2 ^ k ≤ midpoint w p
midpoint_least w p k q is hidden fits =
    ⊎_elim carried (λ (l : q < 2 * 2 ^ w.S). le_of_eq (sym (midpoint_at w p k q is l (λ h. hidden)))) (eq-or-lt_of_le fits)
  where
    carried : q ≡ 2 * 2 ^ w.S → (2 * q + 1) * 2 ^ k ≤ midpoint w p
    carried e =
        let next : suc k * 2 ^ w.S + 2 ^ w.S ≡ p = omega arith in
        rw (midpoint_at w p (suc k) (2 ^ w.S) next (omega (arith, pow_pos w.S)) (λ h. omega arith), pow-succ' 2 k, e) (omega arith)

-- No fraction reads as a pattern beyond the infinity.
pub no_more : (w : Width) (n d : ℕ) → nearest w n d ≤ infinity w
unfolding nearest top
no_more w n d = omega arith

module _ (w : Width) (r : Readable w) (n d x : ℕ) (D : 0 < d) (inside : x < infinity w) where
  pub above_midpoint : midpoint w x * d < 2 * (n * 2 ^ low w) → x < nearest w n d
  unfolding midpoint nearest top middle
  above_midpoint h =
      omega (arith, past (units_of w.S) (units_rise w.S) (n * 2 ^ low w) d (unbounded w n d) x D (unbounded_rounds w r n d D) h)

  pub below_midpoint : 2 * (n * 2 ^ low w) < midpoint w x * d → nearest w n d ≤ x
  unfolding midpoint nearest top middle
  below_midpoint h =
      omega (arith, short (units_of w.S) (units_rise w.S) (n * 2 ^ low w) d (unbounded w n d) x D (unbounded_rounds w r n d D) h)

  pub at_midpoint : 2 * (n * 2 ^ low w) ≡ midpoint w x * d → nearest w n d ≡ x + x % 2
  unfolding midpoint nearest top middle
  at_midpoint e =
      omega (arith, tied (units_of w.S) (units_rise w.S) (n * 2 ^ low w) d (unbounded w n d) x D (unbounded_rounds w r n d D) e)

-- The top rule: a fraction reads as the infinity from the midpoint above the largest finite number on, and nowhere else.
module _ (w : Width) (r : Readable w) (some : 0 < all_ones w) where
  last : suc (infinity w - 1) ≡ infinity w
  unfolding infinity
  last = omega (arith, mul-pos some (pow_pos w.S))

  odd : (infinity w - 1) % 2 ≡ 1
  unfolding infinity
  odd = omega (arith, ap (λ (x : ℕ). all_ones w * x) (two_halves w.S r.digits), mul-pos some (pow_pos w.S))

  in_units : (x : ℕ) → x ≤ infinity w → worth w x ≡ units_of w.S x * 2 ^ (w.N + 1)
  in_units x h = worth_bare w x ∙ ap (λ (v : ℕ). units_of w.S v * 2 ^ (w.N + 1)) (bare_is w r x (no_sign w r x h))

  -- The midpoint, counted in units.
  last_midpoint : midpoint_above w (infinity w - 1) ≡ midpoint w (infinity w - 1) * 2 ^ (w.N + 1)
  unfolding midpoint_above midpoint
  last_midpoint = let t = infinity w - 1 in omega (arith, in_units t (omega arith), in_units (suc t) (omega (arith, last)))

  module _ (n d : ℕ) (D : 0 < d) where
    scaled : n * (2 * 2 ^ off w) ≡ 2 * (n * 2 ^ low w) * 2 ^ (w.N + 1)
    scaled = rw (off_units w r) (omega arith)

    -- Half the last step above the largest finite number, or more.
    pub reads_infinite : midpoint_above w (infinity w - 1) * d ≤ n * (2 * 2 ^ off w) → nearest w n d ≡ infinity w
    reads_infinite h =
        let t = infinity w - 1 in
        let cancelled : midpoint w t * d ≤ 2 * (n * 2 ^ low w) =
        le_of_mul-le-mul_right {k = 2 ^ (w.N + 1)} (omega (arith, scaled, ap (λ (x : ℕ). x * d) last_midpoint)) (pow_pos (w.N + 1)) in
        ⊎_elim (λ tie. omega (arith, last, odd, at_midpoint w r n d t D (omega (arith, last)) (sym tie)))
        (λ more. omega (arith, last, above_midpoint w r n d t D (omega (arith, last)) more, no_more w n d))
        (eq-or-lt_of_le cancelled)

    -- Less than that.
    pub reads_finite : n * (2 * 2 ^ off w) < midpoint_above w (infinity w - 1) * d → nearest w n d < infinity w
    reads_finite h =
        let t = infinity w - 1 in
        let cancelled : 2 * (n * 2 ^ low w) < midpoint w t * d =
        lt_of_mul-lt-mul_right (2 ^ (w.N + 1)) (omega (arith, scaled, ap (λ (x : ℕ). x * d) last_midpoint)) in
        omega (arith, last, below_midpoint w r n d t D (omega (arith, last)) cancelled)
