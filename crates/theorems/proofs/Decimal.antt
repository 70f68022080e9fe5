-- The decimal that a finite magnitude prints: how many digits, how large an exponent, and between which bounds. Assumes nothing.
use mathlib.Core.Logic.{⊎_elim}
use mathlib.Core.Path.{◌≡◌, sym, ap, ◌∙◌}
use Prim.Native.Nat.{ℕ, suc, ◌+◌, ◌-◌, ◌*◌, ◌/◌, ◌^◌, ◌≤◌, ◌<◌}
use native.Mathlib.Nat.{lt_of_mul-lt-mul_right, mul-le-mul_left, mul-le-mul_right, mul-lt-mul_of_pos_right, one-mul, pow-succ', div-lt_iff_lt-mul, le-div_iff_mul-le}
use native.Mathlib.Omega.{arith}
use lib.IntN.{ℤ, nat_abs, sub_ℕ, ◌+ℤ◌}
use lib.Pow.{pow-add, pow_mono, pow_pos}
use Rattle.laws.proofs.Branches.{which}
use Rattle.laws.proofs.Differences as difference
use Rattle.laws.proofs.Exponents.{lesser_exponent}
use Rattle.laws.proofs.Powers.{ten_pos}
use Rattle.rules.specs.Numbers.{count}
use Rattle.rules.specs.Width.{Width, off}
use Rattle.rules.specs.Pattern.{Pair}
use Rattle.rules.specs.Boundaries.{upper, below}
use Rattle.rules.specs.Power.{P, j_raised}
use Rattle.rules.specs.Scaled.{Scaled, scaled}
use Rattle.rules.specs.Digits.{c, first, decimal}
use Rattle.theorems.proofs.Counting.{count-above, count_least, count_pos, count_reaches, count-first}
use Rattle.theorems.proofs.Places.{first_taken, fallen, between}
use Rattle.theorems.proofs.Few.{c_least, up_most, count_few, down_most}
use Rattle.theorems.proofs.LastDigit.{printed_pos}
use Rattle.theorems.proofs.Power.{j_least, index_is}
use Rattle.theorems.proofs.Boundaries.{Finite, upper-shifted, exponent_most}
use Rattle.theorems.proofs.Scale.{Scales, finite_scales}
use Rattle.theorems.proofs.Printable.{Printable}

-- Powers of ten that enclose a quotient of X * 10^down by 10^up: here A = 10^e, B = 10^up, C = 10^down, T = 10^(c - 1).
enclosed : (digits rest H X A B C T : ℕ) → 0 < X → digits * (B * X) + rest ≡ H * C → rest < B * X → T * C ≡ A * B → T * X ≤ H → H < 10 * T * X →
    0 < B → 0 < C → (A ≤ digits) × (digits < 10 * A)
enclosed digits rest H X A B C T some sum small split least most b-some c-some =
    let lower : A * (B * X) < (digits + 1) * (B * X) = omega (arith, mul-le-mul_right C least, ap (λ (z : ℕ). z * X) split) in
    let upper : digits * (B * X) < 10 * A * (B * X) = omega (arith, mul-lt-mul_of_pos_right most c-some, ap (λ (z : ℕ). z * X) split) in
    let under : A < digits + 1 = lt_of_mul-lt-mul_right (B * X) lower in
    (omega arith, lt_of_mul-lt-mul_right (B * X) upper)

module _ (b : Scaled) (apart : b.L < b.H) (whole : 2 ^ b.x ≤ b.H) where
  -- The digits from the place c - 1 down to the place up - down are c + down - up.
  pub length_of_digits : count (first b).digits + (first b).up ≡ c b + (first b).down
  unfolding c
  length_of_digits =
      let f = first b in
      let t = first_taken b apart in
      let h = b.H / 2 ^ b.x in
      let e = count h - 1 + f.down - f.up in
      let some : 0 < h = (le-div_iff_mul-le (pow_pos b.x)).1 (rw one-mul whole) in
      let ten : 10 ^ count h ≡ 10 * 10 ^ (count h - 1) = ap (λ (n : ℕ). 10 ^ n) (omega (arith, count_pos h)) ∙ pow-succ' 10 (count h - 1) in
      let split : 10 ^ (count h - 1) * 10 ^ f.down ≡ 10 ^ e * 10 ^ f.up =
      sym (pow-add 10 (count h - 1) f.down) ∙ ap (λ (n : ℕ). 10 ^ n) (omega (arith, t.up_less)) ∙ pow-add 10 e f.up in
      let near =
      enclosed f.digits f.rest b.H (2 ^ b.x) (10 ^ e) (10 ^ f.up) (10 ^ f.down) (10 ^ (count h - 1)) (pow_pos b.x)
      (rw t.fits.unit at t.fits.sum) (rw t.fits.unit at t.rest_less) split
      ((le-div_iff_mul-le (pow_pos b.x)).0 (count-first h some))
      ((div-lt_iff_lt-mul (pow_pos b.x)).0 (rw (← ten) (count-above h))) (ten_pos f.up) (ten_pos f.down) in
      omega (arith, count_reaches f.digits e near.0, count_least f.digits e (rw (pow-succ' 10 e) near.1), t.up_less, count_pos h)

-- What is known of the decimal of a finite magnitude.
pub record Printed (w : Width) (q : ℕ) (m : Pair) : Type 0 where
  -- 1 to q + 1 digits, and the number that they make is not zero
  pub some : 0 < (decimal w m).len
  pub few : (decimal w m).len ≤ suc q
  pub fits : (decimal w m).digits < 10 ^ (decimal w m).len
  pub above_zero : 0 < (decimal w m).digits
  -- the exponent k as a difference, with room for three digits, and kk = len + k at least -323
  pub up : ℕ
  pub down : ℕ
  pub k_is : (decimal w m).k ≡ sub_ℕ up down
  pub near : nat_abs (decimal w m).k < 900
  pub kk_least : down < up + (decimal w m).len + 324
  -- the decimal is at least L and at most H, in units of 2^-x, and so strictly between the exact boundaries
  pub under-upper : (decimal w m).digits * 10 ^ up * 2 ^ off w < (2 * m.f + 1) * 2 ^ (m.exp - 1) * 10 ^ down
  pub over_lower : (below w m).f * 2 ^ (below w m).exp * 10 ^ down < (decimal w m).digits * 10 ^ up * 2 ^ off w

module _ (w : Width) (q : ℕ) (p : Printable w q) (m : Pair) (h : Finite w m) where
  abbrev b : Scaled
  b = scaled w m

  facts : Scales w q m
  facts = finite_scales w q p.sound m h

  apart : b.L < b.H
  apart = omega (arith, facts.low_mid, facts.mid_high)

  -- The upper boundary's exponent is not among the two least.
  least_exponent : 2 ≤ (upper w m).exp
  least_exponent =
      let u = upper-shifted w q p.sound m h in
      let three : 3 * 2 ^ u.by ≤ (2 * m.f + 1) * 2 ^ u.by = mul-le-mul_right (2 ^ u.by) (omega (arith, h.some)) in
      let room : suc u.by < w.N = lesser_exponent (suc u.by) w.N (omega (arith, pow-succ' 2 u.by, u.number, u.fits, pow_pos u.by)) in
      omega (arith, u.exponent, h.least_exponent)

  -- No power beyond 10^324 is asked for.
  power_most : 8 * b.at ≤ w.tens + 324
  unfolding scaled
  power_most =
      let E = (upper w m).exp in
      let s = p.sound in
      let j = j_least w q s E (exponent_most w q s m h) in
      let wide = mul-le-mul_left (10 ^ (w.tens + 331)) (pow_mono {i = w.N + 2} {j = E + w.N} (omega (arith, least_exponent))) in
      let most : j_raised w E ≤ w.tens + 331 =
      ⊎_elim (λ more. absurd (omega (arith, j.smaller (w.tens + 331) more, p.least))) (λ less. less) (which (w.tens + 331) (j_raised w E)) in
      rw (index_is w E s.tens) (omega (arith, p.level))

  pub low_some : 0 < (scaled w m).L
  unfolding scaled
  low_some = omega arith

  -- The decimal of a finite magnitude.
  pub printed : Printed w q m
  unfolding decimal P
  printed =
      let f = first b in
      let length = length_of_digits b apart (omega (arith, facts.least_whole)) in
      let high : f.up ≤ 8 = up_most b apart 8 (omega (arith, facts.most_whole)) in
      let low : f.down ≤ q = down_most b apart q facts.relative (omega (arith, facts.least_whole)) in
      let k_is : (decimal w m).k ≡ sub_ℕ (f.up + w.tens) (f.down + 8 * b.at) =
      ap (λ (z : ℤ). sub_ℕ f.up f.down +ℤ z) (difference.minus (8 * b.at) w.tens) ∙ difference.add f.up f.down w.tens (8 * b.at) in
      let near : nat_abs (sub_ℕ (f.up + w.tens) (f.down + 8 * b.at)) < 900 =
      difference.size_bounded 900 (f.up + w.tens) (f.down + 8 * b.at) (omega (arith, p.low)) (omega (arith, facts.inside, p.high, p.few)) in
      let bounds = between b apart in
      record {
        some = count_pos f.digits;
        few = count_few b apart q facts.relative;
        fits = omega (arith, count-above f.digits);
        above_zero = printed_pos b apart low_some;
        up = f.up + w.tens;
        down = f.down + 8 * b.at;
        k_is = k_is;
        near = rw k_is near;
        kk_least = omega (arith, power_most, c_least b);
        under-upper =
            rw (pow-add 10 f.up w.tens, pow-add 10 f.down (8 * b.at))
            (omega (arith, facts.under-upper ((f.digits - fallen f) * 10 ^ f.up) (10 ^ f.down) (ten_pos f.down) bounds.most));
        over_lower =
            rw (pow-add 10 f.up w.tens, pow-add 10 f.down (8 * b.at))
            (omega (arith, facts.over_lower ((f.digits - fallen f) * 10 ^ f.up) (10 ^ f.down) (ten_pos f.down) bounds.least));
      }
