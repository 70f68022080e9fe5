-- A pattern means what the toolchain's account of IEEE 754, `lib.Ieee`, says that it means, at 32 and 64 bits. Assumes nothing.
use mathlib.Core.Bool.{Bool, true, false, not, cond}
use mathlib.Core.Path.{◌≡◌, refl, sym, ap, ◌∙◌}
use Prim.Native.Nat.{ℕ, zero, suc, ◌+◌, ◌-◌, ◌*◌, ◌/◌, ◌%◌, ◌^◌, ◌≤◌, ◌<◌}
use native.Mathlib.Nat.{le-div_iff_mul-le}
use native.Mathlib.Omega.{arith}
use lib.Dec.{T, leb, eqb, leb→le, le→leb, eqb→eq, not_T}
use lib.Ieee as Ieee
use lib.Ieee.{Float, nan, inf, fin, Format, binary32, binary64, prec, emax, hid, ones, of_fields, of_bits}
use lib.Ieee.Exact.{HasValue, odd_sign}
use lib.Ieee.Fits.{eq→eqb}
use lib.Pow.{pow_pos, field, shr_lt}
use Rattle.laws.proofs.Branches.{is_true, is_false}
use Rattle.rules.specs.Width.{Width, w32, w64, off}
use Rattle.rules.specs.Pattern.{negative, biased, significand, all_ones, special}
use Rattle.rules.specs.Reading.{low, worth}
use Rattle.theorems.proofs.Readable.{Readable, readable32, readable64}
use Rattle.theorems.proofs.Units.{units_of, units_at}
use Rattle.theorems.proofs.Worth.{significand_small, bare, worth_bare, split_bits, off_units}

-- A format of the toolchain's account and a width are the same.
pub record Agree (f : Format) (w : Width) : Type 0 where
  pub readable : Readable w
  pub digits : prec f ≡ suc w.S
  pub bias : emax f ≡ w.bias
  pub all_ones_is : ones f ≡ all_ones w
  pub sign : Ieee.top f ≡ 2 ^ (w.bits - 1)

-- Binary32 and binary64 are so in both.
pub agree32 : Agree binary32 w32
unfolding w32 all_ones
agree32 = record { readable = readable32; digits = refl; bias = refl; all_ones_is = refl; sign = refl }

pub agree64 : Agree binary64 w64
unfolding w64 all_ones
agree64 = record { readable = readable64; digits = refl; bias = refl; all_ones_is = refl; sign = refl }

-- What a pattern decodes to: an infinity, a NaN, or a number with the sign and the magnitude that the pattern has here.
pub record Decodes (f : Format) (w : Width) (v : ℕ) : Type 0 where
  pub infinite : T (special w v) → significand w v ≡ 0 → of_bits f v ≡ inf (negative w v)
  pub notANumber : T (special w v) → 0 < significand w v → of_bits f v ≡ nan
  pub finite : T (not (special w v)) → HasValue (of_bits f v) (negative w v) (worth w v) (2 ^ off w)

-- Tests that pass together are equal.
same_test : (a b : Bool) → (T a → T b) → (T b → T a) → a ≡ b
same_test true b f g = sym (is_true b (f tt))
same_test false true f g = absurd (g tt)
same_test false false f g = refl

-- A value over c is as much over c * z.
scaled : (x : Float) (s : Bool) (a c z : ℕ) → HasValue x s a c → HasValue x s (a * z) (c * z)
scaled nan s a c z h = h
scaled (inf t) s a c z h = h
scaled (fin t m e) s a c z h = (h.0, omega (arith, ap (λ (y : ℕ). y * z) h.1))

module _ (f : Format) (w : Width) (g : Agree f w) where
  -- The weight of the exponent's field.
  pub hid_is : hid f ≡ 2 ^ w.S
  hid_is = ap (λ (x : ℕ). 2 ^ x) (omega (arith, g.digits))

  -- The smallest value is 2^-low in both.
  pub low_is : Ieee.low f ≡ low w
  unfolding low
  low_is = omega (arith, g.digits, g.bias)

  -- ---- a value from its fields

  -- Fields that are no infinity's and no NaN's make a number of units.
  finite_fields : (s : Bool) (b t : ℕ) → t < 2 ^ w.S → T (not (eqb b (ones f))) →
      HasValue (of_fields f s b t) s (units_of w.S (b * 2 ^ w.S + t)) (2 ^ Ieee.low f)
  unfolding of_fields
  finite_fields s zero t small h =
      rw (units_at w.S (0 * 2 ^ w.S + t) 0 t refl (omega arith) (λ z. absurd (omega arith))) (odd_sign (prec f) s t 0 (Ieee.low f))
  finite_fields s (suc k) t small h =
      let u = units_at w.S (suc k * 2 ^ w.S + t) k (2 ^ w.S + t) (omega arith) (omega arith) (λ z. omega arith) in
      rw (u, is_false (eqb (suc k) (ones f)) h, hid_is) (odd_sign (prec f) s (2 ^ w.S + t) k (Ieee.low f))

  special_fields : (s : Bool) (b t : ℕ) → T (eqb b (ones f)) → of_fields f s b t ≡ cond (eqb t 0) (inf s) nan
  unfolding of_fields
  special_fields s zero t h = absurd (omega (arith, eqb→eq 0 (ones f) h))
  special_fields s (suc k) t h = rw (is_true (eqb (suc k) (ones f)) h)

  -- ---- the three fields of a pattern
  module _ (v : ℕ) (bound : v < 2 ^ w.bits) where
    sign_is : leb (Ieee.top f) v ≡ negative w v
    unfolding negative
    sign_is =
        let H = 2 ^ (w.bits - 1) in
        let pos : 0 < H = pow_pos (w.bits - 1) in
        let b : w.bits ≡ 1 + (w.bits - 1) = omega (arith, g.readable.field) in
        let l : v / H < 2 = shr_lt 1 (w.bits - 1) (rw (← b) bound) in
        rw g.sign
        (same_test (leb H v) (eqb (v / H % 2) 1)
        (λ t.
        let q : 1 ≤ v / H = (le-div_iff_mul-le pos).1 (omega (arith, leb→le H v t)) in
        let e : v / H % 2 ≡ 1 = omega arith in
        eq→eqb e)
        (λ t.
        let q : v / H % 2 ≡ 1 = eqb→eq (v / H % 2) 1 t in
        let h : 1 * H ≤ v = (le-div_iff_mul-le pos).0 (omega arith) in
        le→leb H v (omega arith)))

    field_is : v % Ieee.top f / hid f ≡ biased w v
    unfolding biased
    field_is =
        rw (g.sign, hid_is) (rw (split_bits w g.readable) at (field v (w.bits - 1 - w.S) w.S))

    digits_is : v % hid f ≡ significand w v
    unfolding significand
    digits_is = rw hid_is

    fields_are : of_bits f v ≡ of_fields f (negative w v) (biased w v) (significand w v)
    unfolding of_bits
    fields_are = rw (sign_is, field_is, digits_is)

    special_is : T (special w v) → of_bits f v ≡ cond (eqb (significand w v) 0) (inf (negative w v)) nan
    unfolding special
    special_is t = fields_are ∙ special_fields (negative w v) (biased w v) (significand w v) (rw g.all_ones_is t)

    -- A number is so many of the smallest values.
    pub finite_is : T (not (special w v)) → HasValue (of_bits f v) (negative w v) (units_of w.S (bare w v)) (2 ^ Ieee.low f)
    unfolding special bare
    finite_is t =
        rw fields_are (finite_fields (negative w v) (biased w v) (significand w v) (significand_small w v) (rw g.all_ones_is t))

    -- A pattern decodes to what it means.
    pub decodes : Decodes f w v
    decodes =
        record {
          infinite = λ t e. special_is t ∙ rw (is_true (eqb (significand w v) 0) (eq→eqb e));
          notANumber = λ t h.
              let z = eqb (significand w v) 0 in
              let differs : T (not z) = not_T z (λ e. omega (arith, eqb→eq (significand w v) 0 e)) in
              special_is t ∙ rw (is_false z differs);
          finite = λ t.
              rw (worth_bare w v, off_units w g.readable, ← low_is)
              (scaled (of_bits f v) (negative w v) (units_of w.S (bare w v)) (2 ^ Ieee.low f) (2 ^ (w.N + 1)) (finite_is t));
        }

-- Every pattern of 32 bits, and of 64, decodes so.
pub decodes32 : (v : ℕ) → v < 2 ^ 32 → Decodes binary32 w32 v
unfolding w32
decodes32 v h = decodes binary32 w32 agree32 v h

pub decodes64 : (v : ℕ) → v < 2 ^ 64 → Decodes binary64 w64 v
unfolding w64
decodes64 v h = decodes binary64 w64 agree64 v h
