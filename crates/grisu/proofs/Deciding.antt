-- From the scaled numbers to a magnitude's decimal: digit generation may be called, and what it gives is the decimal. Assumes nothing.
use mathlib.Core.List.{List}
use mathlib.Core.Path.{◌≡◌, sym, ap, ap₂, ◌∙◌, subst}
use Prim.Native.Nat.{ℕ, ◌-◌, ◌*◌, ◌^◌, ◌≤◌, ◌<◌}
use native.Mathlib.Nat.{mul-le-mul_right}
use native.Mathlib.Omega.{arith}
use lib.IntN.{ℤ, sub_ℕ, ◌+ℤ◌}
use mir.Syntax.{w32}
use mir.Val.{SFits}
use Rattle.laws.specs.Puts.{Puts}
use Rattle.laws.proofs.Differences as difference
use Rattle.laws.proofs.Exponents.{ten_mono}
use Rattle.laws.proofs.Signed.{Held, read, held, unchanged, small_apart}
use Rattle.rules.specs.Numbers.{count, numeral}
use Rattle.rules.specs.Width.{Width}
use Rattle.rules.specs.Pattern.{Pair}
use Rattle.rules.specs.Power.{P}
use Rattle.rules.specs.Scaled.{scaled, D}
use Rattle.rules.specs.Digits.{Place, first, falls, decimal}
use Rattle.theorems.proofs.Boundaries.{Finite}
use Rattle.theorems.proofs.Few.{up_most, down_most}
use Rattle.theorems.proofs.Scale.{Scales, finite_scales}
use Rattle.theorems.proofs.Printable.{Printable}
use Rattle.theorems.proofs.Decimal.{low_some, printed}
use Rattle.patterns.specs.Small.{Small}
use Rattle.digits.specs.Digits.{given, Ready, Generated}
use Rattle.grisu.specs.declared.Start.{Start}
use Rattle.grisu.specs.Grisu.{ScaledTo, Decided}
use Rattle.digits.proofs.Given.{given-first}

module _ {w : Width} {q : ℕ} (p : Printable w q) {m : Pair} (f : Finite w m) {t : Start} (s : ScaledTo w m t) where
  facts : Scales w q m
  facts = finite_scales w q p.sound m f

  -- The power's exponent is read as it was written.
  pub reread : Small w → ScaledTo w m (record { numbers = t.numbers; k = read t.k })
  unfolding P
  reread small =
      let i = (scaled w m).at in
      let back : read t.k ≡ t.k =
      unchanged {a = w.tens} {b = 8 * i} (record { is = s.power ∙ difference.minus (8 * i) w.tens }) (omega (arith, small.sum, facts.inside)) in
      record { high = s.high; middle = s.middle; room = s.room; shift = s.shift; power = back ∙ s.power }

  -- Digit generation may be called with room for the most digits.
  pub ready : (room : ℕ) → 9 ≤ room → q < room → w.N ≤ 64 → Ready t.numbers.h t.numbers.w t.numbers.delta t.numbers.x room
  unfolding D
  ready room nine enough word =
      let few : 10 ^ q * t.numbers.delta ≤ 10 ^ (room - 1) * t.numbers.delta = mul-le-mul_right t.numbers.delta (ten_mono q (room - 1) (omega arith)) in
      let same : 10 ^ q * t.numbers.delta ≡ 10 ^ q * D (scaled w m) = ap (λ (n : ℕ). 10 ^ q * n) s.room in
      let unit : 2 ^ t.numbers.x ≡ 2 ^ (scaled w m).x = ap (λ (n : ℕ). 2 ^ n) s.shift in
      record {
        some = omega (arith, s.room, facts.low_mid, facts.mid_high);
        less = omega (arith, s.room, s.high, facts.low_mid, facts.mid_high, low_some w q p m f);
        low = omega (arith, s.room, s.high, s.middle, facts.low_mid, facts.mid_high);
        high = omega (arith, s.high, s.middle, facts.mid_high);
        whole = omega (arith, s.high, facts.least_whole);
        short = omega (arith, s.high, facts.most_whole);
        shift = omega (arith, s.shift, facts.most_x);
        nine = nine;
        few = omega (arith, s.high, facts.relative);
      }

  module _ {len : ℕ} {place : ℤ} {old new : List ℕ} (g : Generated (first (given t.numbers.h t.numbers.w t.numbers.delta t.numbers.x)) len place old new) where
    apart : (scaled w m).L < (scaled w m).H
    apart = omega (arith, facts.low_mid, facts.mid_high)

    -- The place that was generated is the rules' first.
    same_place : first (given t.numbers.h t.numbers.w t.numbers.delta t.numbers.x) ≡ first (scaled w m)
    same_place =
        rw (s.high, s.middle, s.room, s.shift) (given-first (scaled w m) (omega (arith, apart)))

    place_is : place ≡ sub_ℕ (first (scaled w m)).up (first (scaled w m)).down
    place_is = g.place_is ∙ ap (λ (y : Place). sub_ℕ y.up y.down) same_place

    place_back : read place ≡ place
    place_back =
        let high : (first (scaled w m)).up ≤ 8 = up_most (scaled w m) apart 8 (omega (arith, facts.most_whole)) in
        let low : (first (scaled w m)).down ≤ q = down_most (scaled w m) apart q facts.relative (omega (arith, facts.least_whole)) in
        unchanged {a = (first (scaled w m)).up} {b = (first (scaled w m)).down} (record { is = place_is }) (omega (arith, p.few))

    -- The sum of the two exponents is the decimal's.
    sum_is : read place +ℤ t.k ≡ (decimal w m).k
    unfolding decimal
    sum_is = ap₂ (λ (a b : ℤ). a +ℤ b) (place_back ∙ place_is) s.power

    sum_held : Held (read place +ℤ t.k) (printed w q p m f).up (printed w q p m f).down
    sum_held =
        let d = printed w q p m f in
        held (record { is = sum_is ∙ d.k_is }) (small_apart d.up d.down (rw d.k_is at d.near))

    pub sum_fits : SFits w32 (read place +ℤ t.k)
    sum_fits = sum_held.fits

    -- The decimal.
    pub decided : Decided w m (record { len = len; k = read (read place +ℤ t.k) }) old new
    unfolding decimal
    decided =
        let length_is = g.len_is ∙ ap (λ (y : Place). count y.digits) same_place in
        record {
          length_is = length_is;
          exponent_is = sum_held.back.is ∙ sym (printed w q p m f).k_is;
          text =
              subst (λ (l : List ℕ). Puts l old 0 new len)
              (ap₂ numeral length_is (ap (λ (y : Place). y.digits - falls y 10 y.rest) same_place)) g.text;
        }
