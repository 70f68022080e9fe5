-- The nearest pattern is what the toolchain's account of IEEE 754, `lib.Ieee`, rounds to. Assumes nothing.
use mathlib.Core.Bool.{Bool, true, false, not, cond}
use mathlib.Core.Logic.{⊎_elim}
use mathlib.Core.Path.{◌≡◌, refl, sym, ap, ◌∙◌}
use Prim.Native.Nat.{ℕ, suc, ◌+◌, ◌-◌, ◌*◌, ◌/◌, ◌^◌, ◌≤◌, ◌<◌, min}
use native.Mathlib.Nat.{le_refl, le_of_lt, mul-div_cancel, min-eq_left, min-eq_right}
use native.Mathlib.Omega.{arith}
use lib.Arith.{le→nltb}
use lib.Dec.{T, ltb, eqb, eqb→eq, not_T}
use lib.Ieee as Ieee
use lib.Ieee.{Float, nan, inf, fin, Format, binary32, binary64, prec, emax, hid, size, up, down, is_nan, units, round, of_bits, to_bits}
use lib.Ieee.Bits.{cond_no, to_bits-of_bits}
use lib.Ieee.Exact.{HasValue, units_val}
use lib.Ieee.Fits.{round_is, down_pos}
use lib.Pow.{pow-add}
use Rattle.laws.proofs.Branches.{which}
use Rattle.laws.proofs.Powers.{two_halves}
use Rattle.rules.specs.Width.{Width, w32, w64}
use Rattle.rules.specs.Pattern.{biased, all_ones, special}
use Rattle.rules.specs.Reading.{infinity, low, top, unbounded, nearest, with_sign}
use Rattle.theorems.proofs.Units.{units_of, units_at, units_rise}
use Rattle.theorems.proofs.Worth.{bare, no_sign}
use Rattle.theorems.proofs.Signs.{signed_bound, signed-negative, signed_bare}
use Rattle.theorems.proofs.Rounding.{keeps, rises}
use Rattle.theorems.proofs.Unbounded.{cut, kept, kept_fits, kept_hidden}
use Rattle.theorems.proofs.Decoding.{Agree, agree32, agree64, hid_is, low_is, finite_is}

-- ---- what a float writes depends on its sign and value alone
written : Format → Bool → ℕ → ℕ
written f s a = cond s (Ieee.top f) 0 + (size a - prec f) * hid f + a / 2 ^ (size a - prec f)

value_bits : (f : Format) (x : Float) (s : Bool) (a : ℕ) → HasValue x s a (2 ^ Ieee.low f) → to_bits f x ≡ written f s a
unfolding to_bits written
value_bits f nan s a h = absurd h
value_bits f (inf t) s a h = absurd h
value_bits f (fin t m e) s a h =
    let n : m * up e * 2 ^ Ieee.low f / down e ≡ a = ap (λ (z : ℕ). z / down e) h.1 ∙ mul-div_cancel a (down_pos e) in
    rw (h.0, n)

number_not_nan : (x : Float) (s : Bool) (a c : ℕ) → HasValue x s a c → T (not (is_nan x))
unfolding is_nan
number_not_nan nan s a c h = absurd h
number_not_nan (inf t) s a c h = absurd h
number_not_nan (fin t m e) s a c h = tt

-- From 2^(emax + 1) on it is an infinity.
overflows : (f : Format) (s : Bool) (q k : ℕ) → 2 ^ (Ieee.low f + suc (emax f)) ≤ q * 2 ^ k → units f s q k ≡ inf s
unfolding units
overflows f s q k h =
    let t = 2 ^ (Ieee.low f + suc (emax f)) in
    cond_no (ltb (q * 2 ^ k) t) _ _ (le→nltb (q * 2 ^ k) t h)

module _ (f : Format) (w : Width) (g : Agree f w) where
  -- ---- a pattern below the infinity is finite
  below_finite : (v : ℕ) → bare w v < infinity w → T (not (special w v))
  unfolding special bare infinity
  below_finite v h =
      not_T (eqb (biased w v) (all_ones w))
      (λ t. omega (arith, ap (λ (x : ℕ). x * 2 ^ w.S) (eqb→eq (biased w v) (all_ones w) t)))

  -- A float of so many units writes the pattern of so many units.
  number_bits : (s : Bool) (v : ℕ) (x : Float) → v < infinity w → HasValue x s (units_of w.S v) (2 ^ Ieee.low f) →
      to_bits f x ≡ with_sign w s v
  number_bits s v x l h =
      let p = with_sign w s v in
      let a = units_of w.S v in
      let plain : v < 2 ^ (w.bits - 1) = no_sign w g.readable v (le_of_lt l) in
      let bound : p < 2 ^ w.bits = signed_bound w g.readable v plain s in
      let b : bare w p ≡ v = signed_bare w g.readable v plain s in
      let finite = finite_is f w g p bound (below_finite p (rw b l)) in
      let y : HasValue (of_bits f p) s a (2 ^ Ieee.low f) = rw (signed-negative w g.readable v plain s, b) at finite in
      let fits : p < 2 * Ieee.top f = omega (arith, g.sign, two_halves w.bits (omega (arith, g.readable.field))) in
      value_bits f x s a h ∙ sym (value_bits f (of_bits f p) s a y) ∙ to_bits-of_bits f p fits (number_not_nan (of_bits f p) s _ _ y)

  infinity_bits : (s : Bool) → to_bits f (inf s) ≡ with_sign w s (infinity w)
  unfolding to_bits with_sign infinity
  infinity_bits true = rw (g.sign, hid_is f w g, g.all_ones_is)
  infinity_bits false = rw (hid_is f w g, g.all_ones_is) (omega arith)

  -- The infinity counts as the first number that is too large.
  infinity_units : units_of w.S (infinity w) ≡ 2 ^ (Ieee.low f + suc (emax f))
  unfolding infinity
  infinity_units =
      units_at w.S (all_ones w * 2 ^ w.S) (2 * emax f) (2 ^ w.S) (rw (← g.all_ones_is) (omega arith)) (omega arith)
      (λ h. le_refl (2 ^ w.S))
      ∙ sym (pow-add 2 w.S (2 * emax f)) ∙ ap (λ (x : ℕ). 2 ^ x) (omega (arith, g.digits, g.readable.digits))

  -- ---- rounding
  module _ (s : Bool) (n d : ℕ) where
    digits_units : units_of w.S (unbounded w n d) ≡ kept w.S (n * 2 ^ low w) d * 2 ^ cut w.S (n * 2 ^ low w) d
    unfolding unbounded kept cut
    digits_units =
        let u = n * 2 ^ low w in
        units_at w.S (unbounded w n d) (cut w.S u d) (kept w.S u d) refl (kept_fits w.S u d) (kept_hidden w.S u d)

    round_units : round f s n d ≡ units f s (kept w.S (n * 2 ^ low w) d) (cut w.S (n * 2 ^ low w) d)
    unfolding kept cut
    round_units = round_is f s n d ∙ rw (low_is f w g, g.digits)

    -- `round` writes the nearest pattern, an infinity too.
    pub round_bits : to_bits f (round f s n d) ≡ with_sign w s (nearest w n d)
    unfolding nearest top
    round_bits =
        rw round_units
        (⊎_elim
        (λ (l : unbounded w n d < infinity w).
        let e : min (infinity w) (unbounded w n d) ≡ unbounded w n d = min-eq_right (le_of_lt l) in
        let q = rw (digits_units, infinity_units) at (rises (units_of w.S) (units_rise w.S) l) in
        rw e (number_bits s (unbounded w n d) _ l (rw digits_units (units_val f s _ _ q))))
        (λ (l : infinity w ≤ unbounded w n d).
        let e : min (infinity w) (unbounded w n d) ≡ infinity w = min-eq_left l in
        let q = rw (digits_units, infinity_units) at (keeps (units_of w.S) (units_rise w.S) l) in
        rw (e, overflows f s _ _ q) (infinity_bits s))
        (which (unbounded w n d) (infinity w)))

-- So it is at both widths.
pub round32 : (n d : ℕ) → to_bits binary32 (round binary32 false n d) ≡ nearest w32 n d
unfolding with_sign
round32 n d = round_bits binary32 w32 agree32 false n d

pub round64 : (n d : ℕ) → to_bits binary64 (round binary64 false n d) ≡ nearest w64 n d
unfolding with_sign
round64 n d = round_bits binary64 w64 agree64 false n d
