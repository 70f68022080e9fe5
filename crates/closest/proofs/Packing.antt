-- A significand of 64 bits with a binary exponent, read at a width. Assumes nothing.
use mathlib.Core.Path.{◌≡◌, sym, ap, ap₂, ◌∙◌}
use Prim.Native.Nat.{ℕ, suc, ◌+◌, ◌-◌, ◌*◌, ◌/◌, ◌%◌, ◌^◌, ◌≤◌, ◌<◌}
use native.Mathlib.Nat.{le_antisymm, lt_of_le_of_lt, mul_assoc, mul-pos, mul-le-mul_left, mul-le-mul_right, mul-lt-mul_of_pos_right}
use native.Mathlib.Nat.{le-div_iff_mul-le, div-lt_iff_lt-mul, mod-eq_of_lt}
use native.Mathlib.Omega.{arith}
use lib.Ieee.{size}
use lib.Ieee.Digits.{size-le, size-lt}
use lib.Ieee.Nearest.{closest, closest_same}
use lib.Pow.{pow_pos, pow-add, pow-lt, pow_mono}
use Rattle.laws.proofs.Closest.{is_closest, one_closest, closest_least, closest_most}
use Rattle.laws.proofs.Exponents.{lesser_exponent}
use Rattle.rules.specs.Width.{Width}
use Rattle.rules.specs.Pattern.{all_ones}
use Rattle.rules.specs.Reading.{infinity, low, top, unbounded, nearest}
use Rattle.closest.specs.declared.Target.{Target}
use Rattle.closest.specs.Targets.{Targets, Sized}

-- A number from 2^a on and below 2^(a + 1) has a + 1 binary digits.
size_is : (a n : ℕ) → 2 ^ a ≤ n → n < 2 ^ suc a → size n ≡ suc a
size_is a n least most = le_antisymm (size-le n (suc a) most) (lesser_exponent a (size n) (lt_of_le_of_lt least (size-lt n)))

-- A power of two by the sum of its exponents.
pub same_power : (a b c d : ℕ) → a + b ≡ c + d → 2 ^ a * 2 ^ b ≡ 2 ^ c * 2 ^ d
same_power a b c d e = sym (pow-add 2 a b) ∙ ap (λ (x : ℕ). 2 ^ x) e ∙ pow-add 2 c d

-- A bit shifted to a place that a u64 has.
pub one_shifted : (s : ℕ) → s < 64 → 1 * 2 ^ s % 2 ^ 64 ≡ 2 ^ s
one_shifted s few = ap (λ (n : ℕ). n % 2 ^ 64) (omega arith) ∙ mod-eq_of_lt (pow-lt few)

-- The number n * 2^e / 2^whole, where the width's unit is 2^base / 2^whole, and c binary digits of n are more than the width has.
module _ (w : Width) (base whole c : ℕ) (based : base + low w ≡ whole) (digits : w.S + c ≡ 63) (n e : ℕ) (high : 2 ^ 63 ≤ n)
    (fits : n < 2 ^ 64) where
  units : ℕ
  units = n * 2 ^ e * 2 ^ low w

  gathered : units ≡ n * 2 ^ (e + low w)
  unfolding units
  gathered = mul_assoc n (2 ^ e) (2 ^ low w) ∙ ap (λ (x : ℕ). n * x) (sym (pow-add 2 e (low w)))

  -- Where k digits of its whole part are dropped, j of n's are.
  dropped : (k j : ℕ) → size (units / 2 ^ whole) - suc w.S ≡ k → e + j ≡ base + k →
      unbounded w (n * 2 ^ e) (2 ^ whole) ≡ k * 2 ^ w.S + closest n (2 ^ j)
  unfolding unbounded units
  dropped k j is same =
      let power : 2 ^ (e + low w) * 2 ^ j ≡ 2 ^ whole * 2 ^ k = same_power (e + low w) j whole k (omega arith) in
      let alike : closest units (2 ^ whole * 2 ^ k) ≡ closest n (2 ^ j) =
      closest_same units (2 ^ whole * 2 ^ k) n (2 ^ j) (mul-pos (pow_pos whole) (pow_pos k)) (pow_pos j)
      (omega (arith, ap (λ (x : ℕ). x * 2 ^ j) gathered, ap (λ (x : ℕ). n * x) power)) in
      ap (λ (x : ℕ). x * 2 ^ w.S + closest units (2 ^ whole * 2 ^ x)) is ∙ ap (λ (x : ℕ). k * 2 ^ w.S + x) alike

  -- From the width's first full significand on, c.
  pub unbounded_high : (x : ℕ) → base + x ≡ e + c → unbounded w (n * 2 ^ e) (2 ^ whole) ≡ x * 2 ^ w.S + closest n (2 ^ c)
  unbounded_high x same =
      let s = w.S in
      let least : 2 ^ (s + x) ≤ units / 2 ^ whole =
      (le-div_iff_mul-le (pow_pos whole)).1
      (omega (arith, gathered, same_power (s + x) whole 63 (e + low w) (omega arith), mul-le-mul_right (2 ^ (e + low w)) high)) in
      let most : units / 2 ^ whole < 2 ^ suc (s + x) =
      (div-lt_iff_lt-mul (pow_pos whole)).1
      (omega (arith, gathered, same_power (suc (s + x)) whole 64 (e + low w) (omega arith), mul-lt-mul_of_pos_right fits (pow_pos (e + low w)))) in
      dropped x c (omega (arith, size_is (s + x) (units / 2 ^ whole) least most)) (omega arith)

  -- Below that, as many as leave units.
  pub unbounded-low : (j : ℕ) → e + j ≡ base → c ≤ j → unbounded w (n * 2 ^ e) (2 ^ whole) ≡ closest n (2 ^ j)
  unbounded-low j same more =
      let s = w.S in
      let power : 2 ^ 64 * 2 ^ (e + low w) ≤ 2 ^ suc s * 2 ^ whole =
      rw (← pow-add 2 64 (e + low w), ← pow-add 2 (suc s) whole) (pow_mono (omega arith)) in
      let most : units / 2 ^ whole < 2 ^ suc s =
      (div-lt_iff_lt-mul (pow_pos whole)).1 (omega (arith, gathered, power, mul-lt-mul_of_pos_right fits (pow_pos (e + low w)))) in
      omega (arith, dropped 0 j (omega (arith, size-le (units / 2 ^ whole) (suc s) most)) (omega arith))

-- ---- what is kept of 64 digits where c are dropped

module _ (s c n : ℕ) (digits : s + c ≡ 63) where
  together : 2 ^ s * 2 ^ c ≡ 2 ^ 63
  together = sym (pow-add 2 s c) ∙ ap (λ (x : ℕ). 2 ^ x) digits

  -- The hidden bit is set ..
  pub kept_least : 2 ^ 63 ≤ n → 2 ^ s ≤ closest n (2 ^ c)
  kept_least high = closest_least n (2 ^ c) (2 ^ s) (pow_pos c) (omega (arith, together))

  -- .. or the next power of two is reached, also where more are dropped.
  pub kept_most : n < 2 ^ 64 → (j : ℕ) → c ≤ j → closest n (2 ^ j) ≤ 2 * 2 ^ s
  kept_most fits j more =
      closest_most n (2 ^ j) (2 * 2 ^ s) (pow_pos j) (omega (arith, together, mul-le-mul_left (2 ^ s) (pow_mono {i = c} {j = j} more)))

-- Nothing is kept where more than 64 are.
pub kept_none : (n j : ℕ) → n < 2 ^ 64 → 64 < j → closest n (2 ^ j) ≡ 0
kept_none n j fits more =
    let far : 2 ^ 65 ≤ 2 ^ j = pow_mono {i = 65} {j = j} more in
    one_closest (pow_pos j) (is_closest n (2 ^ j) (pow_pos j)) (record { up = omega (arith, far); down = omega arith })

-- ---- a target's numbers

-- A field that is at most the ones has room in its place.
pub placed : {t : Target} → Sized t → (x : ℕ) → x ≤ t.ones → x * 2 ^ t.fraction % 2 ^ 64 ≡ x * 2 ^ t.fraction
placed {t} sized x few = mod-eq_of_lt (omega (arith, mul-le-mul_right (2 ^ t.fraction) few, sized.fits))

-- The infinity of a width that has them.
pub top_is : {t : Target} {w : Width} → Targets t w → infinity w ≡ t.ones * 2 ^ t.fraction
unfolding infinity
top_is {t} is = ap₂ (λ (n s : ℕ). n * 2 ^ s) (sym is.ones) (sym is.fraction)

module _ {t : Target} {w : Width} (g : Targets t w) (sized : Sized t) (n e : ℕ) (high : 2 ^ 63 ≤ n) (fits : n < 2 ^ 64) where
  cut : ℕ
  cut = 63 - t.fraction

  digits : w.S + cut ≡ 63
  unfolding cut
  digits = omega (arith, g.fraction, sized.few)

  -- Below the first full significand.
  pub nearest-low : (j : ℕ) → e + j ≡ t.base → 63 - t.fraction ≤ j → closest n (2 ^ j) ≡ nearest w (n * 2 ^ e) (2 ^ 1200)
  unfolding cut nearest top infinity
  nearest-low j same more =
      omega (
        arith,
        unbounded-low w t.base 1200 cut g.base digits n e high fits j same more,
        kept_most w.S cut n digits fits j more,
        mul-le-mul_right (2 ^ w.S) sized.field,
        ap (λ (x : ℕ). x * 2 ^ w.S) g.ones,
      )

  -- With x in the exponent's field, to which the hidden bit adds one ..
  module _ (x : ℕ) (same : t.base + x ≡ e + (63 - t.fraction)) where
    in_place : unbounded w (n * 2 ^ e) (2 ^ 1200) ≡ x * 2 ^ w.S + closest n (2 ^ (63 - t.fraction))
    unfolding cut
    in_place = unbounded_high w t.base 1200 cut g.base digits n e high fits x same

    -- .. a finite number or the first infinite one ..
    pub nearest_finite : x + 1 < t.ones →
        x * 2 ^ t.fraction + closest n (2 ^ (63 - t.fraction)) ≡ nearest w (n * 2 ^ e) (2 ^ 1200)
    unfolding cut nearest top infinity
    nearest_finite few =
        let room : (x + 2) * 2 ^ w.S ≤ all_ones w * 2 ^ w.S = mul-le-mul_right (2 ^ w.S) (omega (arith, g.ones)) in
        omega
        (arith, in_place, room, kept_most w.S cut n digits fits cut (omega arith), ap (λ (s : ℕ). x * 2 ^ s) g.fraction)

    -- .. and from the field of ones on, the infinity.
    pub nearest_infinite : t.ones ≤ x + 1 → t.ones * 2 ^ t.fraction ≡ nearest w (n * 2 ^ e) (2 ^ 1200)
    unfolding cut nearest top infinity
    nearest_infinite many =
        let past : all_ones w * 2 ^ w.S ≤ (x + 1) * 2 ^ w.S = mul-le-mul_right (2 ^ w.S) (omega (arith, g.ones)) in
        omega (
          arith,
          in_place,
          past,
          kept_least w.S cut n digits high,
          ap (λ (s : ℕ). t.ones * 2 ^ s) g.fraction,
          ap (λ (o : ℕ). o * 2 ^ w.S) g.ones,
        )
