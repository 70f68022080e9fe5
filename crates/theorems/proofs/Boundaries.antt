-- A finite magnitude's boundaries and value: one exponent, exact values, and how far apart they are. Assumes nothing.
use mathlib.Core.Path.{◌≡◌, sym, ap, ◌∙◌}
use Prim.Native.Nat.{ℕ, zero, suc, ◌+◌, ◌-◌, ◌*◌, ◌^◌, ◌≤◌, ◌<◌}
use native.Mathlib.Nat.{lt_of_mul-lt-mul_left, le_of_suc-le-suc, mul-one, mul_assoc, add-zero, pow-succ', mul-le-mul_left, mul-le-mul_right, mul-lt-mul_of_pos_right, lt_of_mul-lt-mul_right}
use native.Mathlib.Numerals.{add-one}
use native.Mathlib.Omega.{arith}
use lib.Dec.{leb, eqb, leb→le, nleb→lt, eqb→eq}
use lib.Pow.{pow_pos, pow-add, pow_mono}
use Rattle.laws.proofs.Branches.{either}
use Rattle.laws.proofs.Powers.{two_halves}
use Rattle.laws.proofs.Exponents.{lesser_exponent}
use Rattle.rules.specs.Width.{Width}
use Rattle.rules.specs.Pattern.{Pair, all_ones}
use Rattle.rules.specs.Boundaries.{shifted, upper, below, lower, value}
use Rattle.theorems.proofs.Widths.{Sound, top_bit}

-- The pair r is the number a, shifted left until bit n - 1 is set.
pub record Shifted (n : ℕ) (a r : Pair) : Type 0 where
  pub by : ℕ
  pub number : r.f ≡ a.f * 2 ^ by
  pub exponent : r.exp + by ≡ a.exp
  pub top : 2 ^ (n - 1) ≤ r.f
  pub fits : r.f < 2 ^ n

-- That is what `shifted` leaves, where a is below 2^n, the fuel is enough for bit n - 1, and the exponent for the fuel.
pub shifts : (n fuel : ℕ) (a : Pair) → 2 ^ n ≡ 2 * 2 ^ (n - 1) → a.f < 2 ^ n → 2 ^ (n - 1) ≤ a.f * 2 ^ fuel → fuel ≤ a.exp →
    Shifted n a (shifted n fuel a)
unfolding shifted
shifts n zero a two fits top room =
    record { by = 0; number = sym (mul-one a.f); exponent = add-zero a.exp; top = rw mul-one at top; fits = fits }
shifts n (suc fuel) a two fits top room =
    either (Shifted n a) (leb (2 ^ (n - 1)) a.f)
    (λ t. record { by = 0; number = sym (mul-one a.f); exponent = add-zero a.exp; top = leb→le (2 ^ (n - 1)) a.f t; fits = fits })
    (λ t. once_more (shifts n fuel doubled two (omega (arith, nleb→lt)) (rw (mul_assoc, ← pow-succ') top) (omega arith)))
  where
    doubled : Pair
    doubled = record { f = a.f * 2; exp = a.exp - 1 }

    once_more : {r : Pair} → Shifted n doubled r → Shifted n a r
    once_more s =
        record {
          by = suc s.by;
          number = s.number ∙ mul_assoc a.f 2 (2 ^ s.by) ∙ ap (λ (z : ℕ). a.f * z) (sym (pow-succ' 2 s.by));
          exponent = omega (arith, s.exponent);
          top = s.top;
          fits = s.fits;
        }

-- It is the same number.
pub same_number : {n : ℕ} {a r : Pair} → Shifted n a r → r.f * 2 ^ r.exp ≡ a.f * 2 ^ a.exp
same_number {n} {a} {r} s = rw (s.number, mul_assoc, ← pow-add) (ap (λ (e : ℕ). a.f * 2 ^ e) (omega (arith, s.exponent)))

-- A finite magnitude other than zero.
pub record Finite (w : Width) (m : Pair) : Type 0 where
  pub some : 0 < m.f
  pub fits : m.f < 2 ^ (w.S + 1)
  pub least_exponent : w.N < m.exp
  pub most_exponent : m.exp < all_ones w + w.N

-- A number shifted until bit n - 1 is set would not fit if it were shifted further.
pub no_further : (f n p q : ℕ) → 2 ^ n ≡ 2 * 2 ^ (n - 1) → 2 ^ (n - 1) ≤ f * 2 ^ p → f * 2 ^ q < 2 ^ n → q ≤ p
no_further f n p q two top fits =
    le_of_suc-le-suc (lesser_exponent q (suc p) (lt_of_mul-lt-mul_left f (omega (arith, ap (λ (z : ℕ). f * z) (pow-succ' 2 p)))))

-- Where a shifted number fits, so does the end of its last place.
next_fits : (f n v : ℕ) → 0 < f → f * 2 ^ v < 2 ^ n → (f + 1) * 2 ^ v ≤ 2 ^ n
next_fits f n v some less =
    let room : v < n = lesser_exponent v n (omega (arith, mul-le-mul_right (2 ^ v) some)) in
    let split : 2 ^ n ≡ 2 ^ (n - v) * 2 ^ v = ap (λ (e : ℕ). 2 ^ e) (omega arith) ∙ pow-add 2 (n - v) v in
    rw (split, add-one) (mul-le-mul_right (2 ^ v) (lt_of_mul-lt-mul_right (2 ^ v) (rw split at less)))

-- The lower boundary, here p units of z = 2^by or of y = 2^(by - 1), against k = 10^q.
normal_apart : (p z k : ℕ) → 128 ≤ z → 16 * (p + 2) ≤ 31 * k → (p + 2) * z + k * (p * z) + 7 * k ≤ k * ((p + 2) * z)
normal_apart p z k large precise = omega (arith, mul-le-mul_right z precise, mul-le-mul_left k large)

narrow_apart : (p y k : ℕ) → 64 ≤ y → p + 3 ≤ 2 * k → (p + 3) * y + k * (p * y) + 7 * k ≤ k * ((p + 3) * y)
narrow_apart p y k large precise = omega (arith, mul-le-mul_right y precise, mul-le-mul_left k large)

-- The lower boundary l is at least 7 below the value, and far below the upper one, against its size.
pub record Apart (w : Width) (q : ℕ) (m : Pair) (l : ℕ) : Type 0 where
  pub below-value : l + 7 ≤ (value w m).f
  pub below-upper : (upper w m).f + 10 ^ q * l + 7 * 10 ^ q ≤ 10 ^ q * (upper w m).f

module _ (w : Width) (q : ℕ) (s : Sound w q) (m : Pair) (h : Finite w m) where
  small : 2 * m.f + 1 < 2 ^ (w.S + 2)
  small = omega (arith, h.fits, pow-add 2 w.S 1, pow-add 2 w.S 2)

  small_fits : 2 ^ (w.S + 2) ≤ 2 ^ w.N
  small_fits = pow_mono {i = w.S + 2} {j = w.N} (omega (arith, s.deep))

  filled : (f : ℕ) → 0 < f → 2 ^ (w.N - 1) ≤ f * 2 ^ w.N
  filled f some = omega (arith, mul-le-mul_right (2 ^ w.N) some, top_bit s)

  -- The upper boundary is its number, shifted.
  pub upper-shifted : Shifted w.N (record { f = 2 * m.f + 1; exp = m.exp - 1 }) (upper w m)
  unfolding upper
  upper-shifted =
      shifts w.N w.N (record { f = 2 * m.f + 1; exp = m.exp - 1 }) (top_bit s) (omega (arith, small, small_fits))
      (filled (2 * m.f + 1) (omega arith)) (omega (arith, h.least_exponent))

  -- So is the value.
  pub value_shifted : Shifted w.N m (value w m)
  unfolding value
  value_shifted =
      shifts w.N w.N m (top_bit s) (omega (arith, small, small_fits)) (filled m.f h.some) (omega (arith, h.least_exponent))

  -- The upper boundary is shifted at least by N - S - 2.
  pub shift_least : w.N ≤ upper-shifted.by + w.S + 2
  shift_least = omega (arith, lesser_exponent (w.N - 1) (w.S + 2 + upper-shifted.by) (rw (pow-add 2 (w.S + 2) upper-shifted.by) less))
    where
      less : 2 ^ (w.N - 1) < 2 ^ (w.S + 2) * 2 ^ upper-shifted.by
      less = omega (arith, upper-shifted.top, upper-shifted.number, mul-lt-mul_of_pos_right small (pow_pos upper-shifted.by))

  -- So its exponent is no more than that of the largest finite magnitude's.
  pub exponent_most : (upper w m).exp ≤ all_ones w + w.S
  exponent_most = omega (arith, upper-shifted.exponent, shift_least, h.most_exponent)

  -- The value is shifted once more: 2f + 1 has one bit more than f.
  pub once_more : value_shifted.by ≡ suc upper-shifted.by
  once_more = omega (arith, least, most)
    where
      u : Shifted w.N (record { f = 2 * m.f + 1; exp = m.exp - 1 }) (upper w m)
      u = upper-shifted

      v : Shifted w.N m (value w m)
      v = value_shifted

      least : suc u.by ≤ v.by
      least =
          no_further m.f w.N v.by (suc u.by) (top_bit s) (omega (arith, v.top, v.number))
          (rw pow-succ' (omega (arith, u.fits, u.number)))

      most : v.by - 1 ≤ u.by
      most =
          let half : 2 ^ v.by ≡ 2 * 2 ^ (v.by - 1) = two_halves v.by (omega (arith, least)) in
          let next = next_fits m.f w.N v.by h.some (omega (arith, v.fits, v.number)) in
          no_further (2 * m.f + 1) w.N u.by (v.by - 1) (top_bit s) (omega (arith, u.top, u.number))
          (omega (arith, next, ap (λ (z : ℕ). m.f * z) half, pow_pos (v.by - 1)))

  -- So upper boundary and value have one exponent.
  pub one_exponent : (value w m).exp ≡ (upper w m).exp
  one_exponent = omega (arith, value_shifted.exponent, upper-shifted.exponent, once_more, h.least_exponent)

  -- The exact value of the upper boundary.
  pub upper-exact : (upper w m).f * 2 ^ (upper w m).exp ≡ (2 * m.f + 1) * 2 ^ (m.exp - 1)
  upper-exact = same_number upper-shifted

  -- The lower boundary lies no lower than the exponent it is brought to.
  pub below-exponent : (upper w m).exp ≤ (below w m).exp
  unfolding below
  below-exponent =
      let low : (upper w m).exp + 2 ≤ m.exp = omega (arith, upper-shifted.exponent, shift_least, s.deep) in
      either (λ (a : Pair). (upper w m).exp ≤ a.exp) (eqb m.f (2 ^ w.S)) (λ t. omega arith) (λ t. omega arith)

  -- The exact value of the lower boundary.
  pub lower-exact : (lower w m).f * 2 ^ (lower w m).exp ≡ (below w m).f * 2 ^ (below w m).exp
  unfolding lower
  lower-exact = rw (mul_assoc, ← pow-add) (ap (λ (e : ℕ). (below w m).f * 2 ^ e) (omega (arith, below-exponent)))

  -- The upper boundary is one unit above the value, 2 to the power of its shift.
  pub value_unit : (value w m).f + 2 ^ upper-shifted.by ≡ (upper w m).f
  value_unit = rw (value_shifted.number, upper-shifted.number, once_more, pow-succ') (omega arith)

  -- That is at least 128.
  pub unit_least : 128 ≤ 2 ^ upper-shifted.by
  unit_least = pow_mono {i = 7} {j = upper-shifted.by} (omega (arith, shift_least, s.deep))

  -- The value is at least 7 below the upper boundary.
  pub value-apart : (value w m).f + 7 ≤ (upper w m).f
  value-apart = omega (arith, value_unit, unit_least)

  normal : Apart w q m ((2 * m.f - 1) * 2 ^ (m.exp - 1 - (upper w m).exp))
  normal =
      let p = 2 * m.f - 1 in
      let z = 2 ^ upper-shifted.by in
      let e : m.exp - 1 - (upper w m).exp ≡ upper-shifted.by = omega (arith, upper-shifted.exponent) in
      let u : (upper w m).f ≡ (p + 2) * z = upper-shifted.number ∙ ap (λ (n : ℕ). n * z) (omega (arith, h.some)) in
      rw e
      record {
        below-value = omega (arith, value_unit, unit_least);
        below-upper = rw u (normal_apart p z (10 ^ q) unit_least (omega (arith, small, s.normal, h.some)));
      }

  narrow : m.f ≡ 2 ^ w.S → Apart w q m ((4 * m.f - 1) * 2 ^ (m.exp - 2 - (upper w m).exp))
  narrow hidden =
      let p = 4 * m.f - 1 in
      let y = 2 ^ (upper-shifted.by - 1) in
      let e : m.exp - 2 - (upper w m).exp ≡ upper-shifted.by - 1 = omega (arith, upper-shifted.exponent) in
      let two : 2 ^ upper-shifted.by ≡ 2 * y = two_halves upper-shifted.by (omega (arith, shift_least, s.deep)) in
      let four : (2 * m.f + 1) * 2 ≡ p + 3 = omega (arith, h.some) in
      let u : (upper w m).f ≡ (p + 3) * y = rw (upper-shifted.number, two, ← mul_assoc, four) in
      rw e
      record {
        below-value = omega (arith, value_unit, unit_least);
        below-upper = rw u (narrow_apart p y (10 ^ q) (omega (arith, unit_least)) (omega (arith, s.narrow, h.some)));
      }

  -- How far the lower boundary lies below.
  pub apart : Apart w q m (lower w m).f
  unfolding lower below
  apart =
      either (λ (a : Pair). Apart w q m (a.f * 2 ^ (a.exp - (upper w m).exp))) (eqb m.f (2 ^ w.S))
      (λ t. narrow (eqb→eq m.f (2 ^ w.S) t)) (λ t. normal)
