-- A fraction rounds to one place of a rising sequence, the nearest, ties to even, and places keep the order of fractions. Assumes nothing.
use mathlib.Core.Path.{◌≡◌, refl, sym, ap}
use mathlib.Core.Logic.{⊎_elim}
use Prim.Native.Nat.{ℕ, zero, suc, ◌+◌, ◌-◌, ◌*◌, ◌%◌, ◌≤◌, ◌<◌, min}
use native.Mathlib.Nat.{le_refl, le_of_lt, le_antisymm, le_of_eq, lt_of_lt_of_le, eq-or-lt_of_le, min-eq_left, min-eq_right}
use native.Mathlib.Nat.{mul-pos, mul-le-mul_right, mul-lt-mul_of_pos_right}
use native.Mathlib.Omega.{arith}
use Rattle.laws.proofs.Branches.{which, three_ways}
use Rattle.rules.specs.Reading.{apart}

-- The place p holds n / d between its midpoints to both neighbours; on a midpoint, only if p is even.
pub record Rounds (u : ℕ → ℕ) (n d p : ℕ) : Type 0 where
  pub up : 2 * n + p % 2 ≤ (u p + u (suc p)) * d
  pub down : (q : ℕ) → suc q ≡ p → (u q + u p) * d + p % 2 ≤ 2 * n

-- Of the places up to t none is nearer to n / d than v; none is as near, if v is odd.
pub record Best (u : ℕ → ℕ) (n d t v : ℕ) : Type 0 where
  pub inside : v ≤ t
  pub nearer : (x : ℕ) → x ≤ t → (x ≡ v → ⊥) → apart n (u v * d) + v % 2 ≤ apart n (u x * d)

module _ (u : ℕ → ℕ) (rise : (v : ℕ) → u v < u (suc v)) where
  no_fall : (x d : ℕ) → u x ≤ u (x + d)
  no_fall x zero = le_of_eq (ap u (omega arith))
  no_fall x (suc d) = let e : x + suc d ≡ suc (x + d) = omega arith in rw e (omega (arith, no_fall x d, rise (x + d)))

  -- A later term is no smaller.
  pub keeps : {x y : ℕ} → x ≤ y → u x ≤ u y
  keeps {x} {y} h = let e : x + (y - x) ≡ y = omega arith in rw e at (no_fall x (y - x))

  -- A term that comes later is larger.
  pub rises : {x y : ℕ} → x < y → u x < u y
  rises {x} h = lt_of_lt_of_le (rise x) (keeps h)

  module _ (n d p : ℕ) (D : 0 < d) (r : Rounds u n d p) where
    -- The midpoint to any later place is above, and to any earlier place below.
    up_to : (x : ℕ) → p < x → 2 * n + p % 2 ≤ (u p + u x) * d
    up_to x h = omega (arith, r.up, mul-le-mul_right d (keeps h))

    down_to : (x : ℕ) → x < p → (u x + u p) * d + p % 2 ≤ 2 * n
    down_to x h =
        let q = p - 1 in
        let l : x ≤ q = omega arith in
        omega (arith, r.down q (omega arith), mul-le-mul_right d (keeps l))

    -- It is the best of all places.
    pub best_of_all : (t : ℕ) → p ≤ t → Best u n d t p
    unfolding apart
    best_of_all t h =
        record {
          inside = h;
          nearer = λ x l ne.
              ⊎_elim (λ later. omega (arith, up_to x later, mul-lt-mul_of_pos_right (rises later) D))
              (λ rest.
              ⊎_elim (λ e. absurd (ne (sym e)))
              (λ earlier. omega (arith, down_to x earlier, mul-lt-mul_of_pos_right (rises earlier) D)) rest)
              (three_ways p x);
        }

    -- Below it the last place is the best.
    pub capped : (t : ℕ) → t < p → Best u n d t t
    unfolding apart
    capped t h =
        record {
          inside = le_refl t;
          nearer = λ x l ne.
              ⊎_elim (λ e. absurd (ne e))
              (λ less. omega (arith, down_to t h, mul-lt-mul_of_pos_right (rises h) D, mul-lt-mul_of_pos_right (rises less) D))
              (eq-or-lt_of_le l);
        }

    -- So the place, or the last if that comes before, is the best up to the last.
    pub best : (t : ℕ) → Best u n d t (min t p)
    best t =
        ⊎_elim (λ l. let e : min t p ≡ t = min-eq_left (le_of_lt l) in rw e (capped t l))
        (λ l. let e : min t p ≡ p = min-eq_right l in rw e (best_of_all t l))
        (which t p)

  not_both : (n d t v x : ℕ) → 0 < d → v < x → Best u n d t v → Best u n d t x → ⊥
  unfolding apart
  not_both n d t v x D h b c =
      let there = b.nearer x c.inside (λ e. omega arith) in
      let back = c.nearer v b.inside (λ e. omega arith) in
      let far : suc v < x = omega arith in
      let mid = b.nearer (suc v) (omega (arith, c.inside)) (λ e. omega arith) in
      omega (arith, mul-lt-mul_of_pos_right (rise v) D, mul-lt-mul_of_pos_right (rises far) D)

  -- One place alone is the best.
  pub one_best : (n d t v x : ℕ) → 0 < d → Best u n d t v → Best u n d t x → v ≡ x
  one_best n d t v x D b c =
      ⊎_elim (λ l. absurd (not_both n d t v x D l b c))
      (λ rest. ⊎_elim (λ e. e) (λ l. absurd (not_both n d t x v D l c b)) rest)
      (three_ways v x)

  -- ---- the order
  next_above : (a b c d r : ℕ) → 0 < b → 0 < d → Rounds u a b (suc r) → Rounds u c d r → c * b < a * d
  next_above a b c d r B D x y =
      let low = x.down r refl in
      let high = y.up in
      ⊎_elim
      (λ (even : r % 2 < 1).
      let strict : (u r + u (suc r)) * b < 2 * a = omega arith in
      omega (arith, mul-lt-mul_of_pos_right strict D, mul-le-mul_right b high))
      (λ odd.
      let strict : 2 * c < (u r + u (suc r)) * d = omega arith in
      omega (arith, mul-lt-mul_of_pos_right strict B, mul-le-mul_right d low))
      (which (r % 2) 1)

  -- A fraction that rounds to a later place is larger.
  pub larger : (a b c d p r : ℕ) → 0 < b → 0 < d → Rounds u a b p → Rounds u c d r → r < p → c * b < a * d
  larger a b c d p r B D x y l =
      ⊎_elim (λ e. next_above a b c d r B D (rw e x) y)
      (λ far.
      let q = p - 1 in
      let h : r < q = omega arith in
      let low = mul-le-mul_right d (x.down q (omega arith)) in
      let high = mul-le-mul_right b y.up in
      omega (arith, mul-lt-mul_of_pos_right (rises h) (mul-pos B D), mul-le-mul_right (b * d) (keeps l)))
      (eq-or-lt_of_le l)

  -- The place does not fall as the fraction rises.
  pub order : (a b c d p r : ℕ) → 0 < b → 0 < d → Rounds u a b p → Rounds u c d r → a * d ≤ c * b → p ≤ r
  order a b c d p r B D x y h = ⊎_elim (λ l. absurd (omega (arith, larger a b c d p r B D x y l))) (λ l. l) (which r p)

  -- A fraction rounds to one place.
  pub one_place : (n d p r : ℕ) → 0 < d → Rounds u n d p → Rounds u n d r → p ≡ r
  one_place n d p r D x y =
      let same = le_refl (n * d) in
      le_antisymm (order n d n d p r D D x y same) (order n d n d r p D D y x same)
