-- The three scaled numbers of every finite pattern: their order, their size, and that they lie strictly inside the exact boundaries. Assumes nothing.
use mathlib.Core.Bool.{not}
use mathlib.Core.Logic.{◌≢◌}
use mathlib.Core.Path.{◌≡◌, ap, subst, ◌∙◌}
use Prim.Native.Nat.{ℕ, ◌+◌, ◌-◌, ◌*◌, ◌/◌, ◌^◌, ◌≤◌, ◌<◌}
use native.Mathlib.Nat.{mul-pos, mul-le-mul, mul-le-mul_left, mul-le-mul_right, mul-lt-mul_of_pos_right, lt_of_mul-lt-mul_right, le_of_mul-le-mul_right, mod-lt, le_of_lt}
use native.Mathlib.Omega.{arith}
use lib.Dec.{T, eqb, eqb_refl, T_not}
use lib.ListN.{length, get_or}
use lib.Pow.{pow_pos, pow-add, pow_mono}
use Rattle.laws.proofs.Branches.{either}
use Rattle.laws.proofs.Powers.{ten_pos}
use Rattle.rules.specs.Width.{Width, off}
use Rattle.rules.specs.Pattern.{Pair, biased, significand, all_ones, special, magnitude}
use Rattle.rules.specs.Boundaries.{upper, below, lower, value}
use Rattle.rules.specs.Power.{index}
use Rattle.rules.specs.Product.{product}
use Rattle.rules.specs.Scaled.{scaled, D}
use Rattle.rules.proofs.Table.{HalfUnit, Entry, numerator, denominator}
use Rattle.theorems.proofs.Product.{OneUnit, one_unit, product_half, product_most}
use Rattle.theorems.proofs.Widths.{Sound, top_bit}
use Rattle.theorems.proofs.Power.{Reach, reach}
use Rattle.theorems.proofs.Boundaries.{Finite, upper-shifted, value_shifted, exponent_most, upper-exact, lower-exact, value-apart, apart}

-- What is known of a magnitude's H, L, W and x, where at most q + 1 digits are printed.
pub record Scales (w : Width) (q : ℕ) (m : Pair) : Type 0 where
  pub low_mid : (scaled w m).L < (scaled w m).W
  pub mid_high : (scaled w m).W < (scaled w m).H
  pub least_x : w.N - 30 ≤ (scaled w m).x
  pub most_x : (scaled w m).x ≤ w.N - 4
  pub least_whole : 4 * 2 ^ (scaled w m).x ≤ (scaled w m).H
  pub most_whole : (scaled w m).H < 8 * 10 ^ 8 * 2 ^ (scaled w m).x
  pub fits : (scaled w m).H < 2 ^ w.N
  pub inside : (scaled w m).at < length w.significands
  pub relative : (scaled w m).H < 10 ^ q * D (scaled w m)
  -- what is at most H, g / k in units of 2^-x, lies strictly below the exact upper boundary
  pub under-upper : (g k : ℕ) → 0 < k → g * 2 ^ (scaled w m).x ≤ (scaled w m).H * k →
      g * (10 ^ w.tens * 2 ^ off w) < (2 * m.f + 1) * 2 ^ (m.exp - 1) * (k * 10 ^ (8 * (scaled w m).at))
  -- what is at least L lies strictly above the exact lower boundary
  pub over_lower : (g k : ℕ) → 0 < k → (scaled w m).L * k ≤ g * 2 ^ (scaled w m).x →
      (below w m).f * 2 ^ (below w m).exp * (k * 10 ^ (8 * (scaled w m).at)) < g * (10 ^ w.tens * 2 ^ off w)

-- Products of numbers 7 apart by a significand of b's bits are 3 apart.
three_apart : (b c lo hi l h : ℕ) → 0 < b → b ≤ 2 * c → lo + 7 ≤ hi → HalfUnit l (lo * c) b → HalfUnit h (hi * c) b → l + 3 ≤ h
three_apart b c lo hi l h some top seven low high =
    let twice : 2 * l + 4 < 2 * h = lt_of_mul-lt-mul_right b (omega (arith, mul-le-mul_right c seven, low.above, high.under)) in
    omega arith

-- A product of two numbers that fill their bits fills all but one of them.
fills : (h v c p : ℕ) → 0 < h → h ≤ v → h ≤ c → HalfUnit p (v * c) (2 * h) → h ≤ 2 * p + 1
fills h v c p some hv hc near = le_of_mul-le-mul_right (omega (arith, mul-le-mul hv hc, near.under)) some

-- One less than what is within one unit lies strictly under it, and one more strictly over it.
less_one : (p num den : ℕ) → 0 < p → OneUnit p num den → (p - 1) * den < num
less_one p num den some near =
    let e : p * den ≡ (p - 1 + 1) * den = ap (λ (n : ℕ). n * den) (omega arith) in
    omega (arith, near.above)

more_one : (p num den : ℕ) → OneUnit p num den → num < (p + 1) * den
more_one p num den near = omega (arith, near.under)

-- In what follows ten = 10^tens, I = 10^(8 * i), X = 2^x, n = 2^N, y = 2^(the entry's exponent), e = 2^E, a = 2^off and t = 2^twos;
-- u is a boundary's significand, at the exponent E.
strictly_under : (g k ten I X n y e a t h u : ℕ) → X * (n * (y * e)) ≡ a * t → h * (n * (ten * y)) < u * (I * t) → 0 < k * e →
    g * X ≤ h * k → g * (ten * a) < u * e * (k * I)
strictly_under g k ten I X n y e a t h u units less some most =
    lt_of_mul-lt-mul_right t
    (omega (arith, mul-le-mul_right (n * (ten * y) * e) most, mul-lt-mul_of_pos_right less some, ap (λ (z : ℕ). g * ten * z) units))

strictly_over : (g k ten I X n y e a t l u : ℕ) → X * (n * (y * e)) ≡ a * t → u * (I * t) < l * (n * (ten * y)) → 0 < k * e →
    l * k ≤ g * X → u * e * (k * I) < g * (ten * a)
strictly_over g k ten I X n y e a t l u units less some least =
    lt_of_mul-lt-mul_right t
    (omega (arith, mul-le-mul_right (n * (ten * y) * e) least, mul-lt-mul_of_pos_right less some, ap (λ (z : ℕ). g * ten * z) units))

-- So H is below 8 * 10^8 units.
below_most : (ten I X n y e a t h u : ℕ) → X * (n * (y * e)) ≡ a * t → h * (n * (ten * y)) < u * (I * t) → 0 < e → u ≤ n → 0 < t →
    e * n * I < 8 * 10 ^ 8 * (ten * a) → h < 8 * 10 ^ 8 * X
below_most ten I X n y e a t h u units less some fits t_some most =
    lt_of_mul-lt-mul_right (n * (ten * y) * e)
    (omega (
      arith,
      mul-lt-mul_of_pos_right less some,
      mul-le-mul_right (I * t * e) fits,
      mul-lt-mul_of_pos_right most t_some,
      ap (λ (z : ℕ). ten * z) units,
    ))

-- The room D against H, from the distance of the boundaries lo and hi.
close : (b c lo hi l d k : ℕ) → 0 < b → b ≤ 2 * c → hi + k * lo + 7 * k ≤ k * hi → HalfUnit l (lo * c) b →
    HalfUnit (d + l + 2) (hi * c) b → d + l + 1 < k * d
close b c lo hi l d k some top far low high =
    lt_of_mul-lt-mul_right b
    (omega (
      arith,
      high.above,
      mul-le-mul_left k high.under,
      mul-le-mul_left k low.above,
      mul-le-mul_left k top,
      mul-le-mul_right c far,
    ))

-- The table's index that a magnitude asks for, and its entry.
abbrev index_of : Width → Pair → ℕ
index_of w m = index w (upper w m).exp

abbrev entry_of : Width → Pair → ℕ
entry_of w m = get_or w.significands (index_of w m) 0

abbrev exponent_of : Width → Pair → ℕ
exponent_of w m = get_or w.exponents (index_of w m) 0

module _ (w : Width) (q : ℕ) (s : Sound w q) (m : Pair) (h : Finite w m) where
  served : Reach w (upper w m).exp
  served = reach w q s (upper w m).exp (exponent_most w q s m h)

  entry : Entry w (index_of w m)
  entry = s.entry (index_of w m) served.inside

  top : 2 ^ w.N ≤ 2 * entry_of w m
  top = omega (arith, entry.top, top_bit s)

  near : (a : ℕ) → HalfUnit (product w a (entry_of w m)) (a * entry_of w m) (2 ^ w.N)
  near a = product_half w a (entry_of w m) s.dropped

  near_power : (a : ℕ) → a < 2 ^ w.N →
      OneUnit (product w a (entry_of w m)) (a * numerator w (index_of w m)) (2 ^ w.N * denominator w (index_of w m))
  unfolding denominator
  near_power a fits = one_unit entry.half (near a) fits (mul-pos (ten_pos w.tens) (pow_pos (exponent_of w m)))

  stay_apart : (lo hi : ℕ) → lo + 7 ≤ hi → product w lo (entry_of w m) + 3 ≤ product w hi (entry_of w m)
  stay_apart lo hi seven = three_apart (2 ^ w.N) (entry_of w m) lo hi _ _ (pow_pos w.N) top seven (near lo) (near hi)

  low_value : product w (lower w m).f (entry_of w m) + 3 ≤ product w (value w m).f (entry_of w m)
  low_value = stay_apart (lower w m).f (value w m).f (apart w q s m h).below-value

  value_high : product w (value w m).f (entry_of w m) + 3 ≤ product w (upper w m).f (entry_of w m)
  value_high = stay_apart (value w m).f (upper w m).f (value-apart w q s m h)

  units : 2 ^ (scaled w m).x * (2 ^ w.N * (2 ^ exponent_of w m * 2 ^ (upper w m).exp)) ≡ 2 ^ off w * 2 ^ w.twos
  unfolding scaled
  units =
      let E = (upper w m).exp in
      let y = exponent_of w m in
      let e : off w + w.twos - (E + y + w.N) + (w.N + (y + E)) ≡ off w + w.twos = omega (arith, served.least_x) in
      simp pow-add at (ap (λ (n : ℕ). 2 ^ n) e)

  high_under : (scaled w m).H * (2 ^ w.N * denominator w (index_of w m)) < (upper w m).f * numerator w (index_of w m)
  unfolding scaled
  high_under = less_one _ _ _ (omega (arith, value_high)) (near_power (upper w m).f (upper-shifted w q s m h).fits)

  low_over : (lower w m).f * numerator w (index_of w m) < (scaled w m).L * (2 ^ w.N * denominator w (index_of w m))
  unfolding scaled
  low_over =
      let fits = (upper-shifted w q s m h).fits in
      more_one _ _ _ (near_power (lower w m).f (omega (arith, value-apart w q s m h, (apart w q s m h).below-value)))

  least_whole : 4 * 2 ^ (scaled w m).x ≤ (scaled w m).H
  unfolding scaled
  least_whole =
      let v = (value w m).f in
      let eight : 2 ^ (w.N - 1) ≡ 8 * 2 ^ (w.N - 4) = ap (λ (e : ℕ). 2 ^ e) (omega (arith, s.wide)) ∙ pow-add 2 3 (w.N - 4) in
      let most : 2 ^ (scaled w m).x ≤ 2 ^ (w.N - 4) = pow_mono {i = (scaled w m).x} {j = w.N - 4} (omega (arith, served.most_x)) in
      let filled : 2 ^ (w.N - 1) ≤ 2 * product w v (entry_of w m) + 1 =
      fills _ v (entry_of w m) _ (pow_pos (w.N - 1)) (value_shifted w q s m h).top entry.top (rw (top_bit s) at (near v)) in
      omega (arith, value_high)

  relative : (scaled w m).H < 10 ^ q * D (scaled w m)
  unfolding scaled D
  relative =
      let l = product w (lower w m).f (entry_of w m) in
      let d = D (scaled w m) in
      let high : product w (upper w m).f (entry_of w m) ≡ d + l + 2 = omega (arith, low_value, value_high) in
      omega (
        arith,
        close (2 ^ w.N) (entry_of w m) (lower w m).f (upper w m).f l d (10 ^ q) (pow_pos w.N) top (apart w q s m h).below-upper
            (near (lower w m).f) (rw high at (near (upper w m).f)),
      )

  -- The three scaled numbers of a finite magnitude.
  pub finite_scales : Scales w q m
  unfolding scaled numerator denominator lower
  finite_scales =
      let E = (upper w m).exp in
      let fits = (upper-shifted w q s m h).fits in
      record {
        low_mid = omega (arith, low_value);
        mid_high = omega (arith, value_high);
        least_x = omega (arith, served.least_x);
        most_x = omega (arith, served.most_x);
        least_whole = least_whole;
        most_whole =
            below_most _ _ _ _ _ _ _ _ _ _ units high_under (pow_pos E) (le_of_lt fits) (pow_pos w.twos)
            (rw pow-add at served.most_power);
        fits = omega (arith, entry.fits, value_high, product_most w (upper w m).f (entry_of w m) s.dropped fits top);
        inside = served.inside;
        relative = relative;
        under-upper =
            λ g k some most.
            rw (upper-exact w q s m h) at (strictly_under g k _ _ _ _ _ _ _ _ _ _ units high_under (mul-pos some (pow_pos E)) most);
        over_lower =
            λ g k some least.
            rw (lower-exact w q s m h) at (strictly_over g k _ _ _ _ _ _ _ _ _ _ units low_over (mul-pos some (pow_pos E)) least);
      }

-- A finite pattern's magnitude, where it is not zero.
pub finite : (w : Width) (v : ℕ) → 2 ≤ all_ones w → T (not (special w v)) → 0 < (magnitude w v).f → Finite w (magnitude w v)
unfolding magnitude special significand biased all_ones
finite w v two ordinary =
    either (λ (m : Pair). 0 < m.f → Finite w m) (eqb (biased w v) 0)
    (λ t some. omega (arith, bits, pow-add 2 w.S 1))
    (λ t some.
    omega (arith, bits, pow-add 2 w.S 1, field, unlike (biased w v) 0 t, unlike (biased w v) (all_ones w) ordinary))
  where
    bits : significand w v < 2 ^ w.S
    bits = mod-lt v (pow_pos w.S)

    field : biased w v < 2 ^ (w.bits - 1 - w.S)
    field = mod-lt (v / 2 ^ w.S) (pow_pos (w.bits - 1 - w.S))

    unlike : (a b : ℕ) → T (not (eqb a b)) → a ≢ b
    unlike a b differ e = T_not (eqb a b) differ (subst (λ (n : ℕ). T (eqb a n)) e (eqb_refl a))

-- The three scaled numbers of every finite pattern whose magnitude is not zero.
pub scales : (w : Width) {q : ℕ} → Sound w q → (v : ℕ) → T (not (special w v)) → 0 < (magnitude w v).f → Scales w q (magnitude w v)
scales w {q} s v ordinary some = finite_scales w q s (magnitude w v) (finite w v s.finite ordinary some)
