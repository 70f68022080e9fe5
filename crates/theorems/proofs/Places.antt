-- The place that is taken, and the digits there after their falls: they lie between the two bounds. Assumes nothing.
use Prim.Native.Nat.{ℕ, zero, suc, ◌+◌, ◌-◌, ◌*◌, ◌/◌, ◌%◌, ◌^◌, ◌≤◌, ◌<◌}
use mathlib.Core.Logic.{◌⊎◌, inl, inr}
use mathlib.Core.Path.{◌≡◌, refl, sym, ap, ◌∙◌}
use native.Mathlib.Nat.{add-suc, add-zero, div-add-mod', div-lt_iff_lt-mul, le_of_lt, le_of_mul-le-mul_right, le_refl, mod-eq_of_lt, mod-lt, mul_assoc, mul-le-mul_right, mul-one, mul-pos, one-mul, pow-le-pow_left, pow-suc, pow-succ', sub-add_cancel, suc-add, zero-add, zero-lt-suc}
use native.Mathlib.Omega.{arith}
use lib.Arith.{digits_mod, mod-mul}
use lib.Dec.{T, leb, ltb, leb→le, ltb→lt, nleb→lt, nltb→le}
use lib.Pow.{pow_pos}
use Rattle.laws.proofs.Branches.{either, and_left, and_right}
use Rattle.laws.proofs.Powers.{ten_pos}
use Rattle.rules.specs.Scaled.{Scaled, D}
use Rattle.rules.specs.Digits.{Place, above, under, places_under, places, c, first, closer, falls}
use Rattle.theorems.proofs.Counting.{count-above, count_pos}

-- Digits and a rest that make H at the place f, the rest no more than the room.
pub record Fits (b : Scaled) (f : Place) (rest digits : ℕ) : Type 0 where
  pub unit : f.unit ≡ 10 ^ f.up * 2 ^ b.x
  pub room : f.room ≡ D b * 10 ^ f.down
  pub sum : digits * f.unit + rest ≡ b.H * 10 ^ f.down
  pub passes : rest ≤ f.room

-- A place that is taken: it passes, and the place before it, whose rest the last digit and the rest make, did not.
pub record Taken (b : Scaled) (f : Place) : Type 0 where
  pub fits : Fits b f f.rest f.digits
  pub rest_less : f.rest < f.unit
  pub before : f.room ≤ f.digits % 10 * f.unit + f.rest
  pub up_less : f.up < c b
  pub one_sided : (f.up ≡ 0) ⊎ (f.down ≡ 0)

-- Digits whose value at the place f lies between the two bounds.
pub record Between (b : Scaled) (f : Place) (digits : ℕ) : Type 0 where
  pub least : b.L * 10 ^ f.down ≤ digits * 10 ^ f.up * 2 ^ b.x
  pub most : digits * 10 ^ f.up * 2 ^ b.x ≤ b.H * 10 ^ f.down

-- How often the last digit falls in all.
abbrev pub fallen : Place → ℕ
fallen f = falls f 10 f.rest

-- D is what lies between the bounds.
pub D_between : (b : Scaled) → b.L < b.H → b.L + D b ≡ b.H
unfolding D
D_between b apart = omega arith

rest_before : (h u : ℕ) → 0 < u → h % (10 * u) ≡ h / u % 10 * u + h % u
rest_before h u pos = mod-mul h {m = 10} {c = u} (zero-lt-suc 9) pos

rest_times_ten : (h u : ℕ) → 0 < u → h * 10 % (10 * u) ≡ h % u * 10
rest_times_ten h u pos = ap (λ (z : ℕ). z % (10 * u)) parts ∙ digits_mod (h / u) (omega (arith, mod-lt h pos))
  where
    parts : h * 10 ≡ h / u * (10 * u) + h % u * 10
    parts = omega (arith, div-add-mod' h u)

taken_above : (b : Scaled) (p : ℕ) → p < c b → D b ≤ b.H % (10 ^ suc p * 2 ^ b.x) →
    (above b p).rest ≤ (above b p).room → Taken b (above b p)
unfolding above
taken_above b p less failed passes =
    record {
      fits = record { unit = refl; room = sym (mul-one _); sum = div-add-mod' _ _ ∙ sym (mul-one _); passes = passes };
      rest_less = mod-lt _ pos;
      before = rw (pow-succ', mul_assoc, rest_before b.H (10 ^ p * 2 ^ b.x) pos) at failed;
      up_less = less;
      one_sided = inr refl;
    }
  where
    pos : 0 < 10 ^ p * 2 ^ b.x
    pos = mul-pos (ten_pos p) (pow_pos b.x)

taken_under : (b : Scaled) (n : ℕ) → D b * 10 ^ n ≤ b.H * 10 ^ n % 2 ^ b.x →
    (under b (suc n)).rest < (under b (suc n)).room → Taken b (under b (suc n))
unfolding under c
taken_under b n failed passes =
    record {
      fits = record { unit = sym (one-mul _); room = refl; sum = div-add-mod' _ _; passes = le_of_lt passes };
      rest_less = mod-lt _ pos;
      before =
          simp (pow-suc, ← mul_assoc)
          (omega (arith, rest_before (h * 10) (2 ^ b.x) pos, rest_times_ten h (2 ^ b.x) pos));
      up_less = count_pos _;
      one_sided = inl refl;
    }
  where
    pos : 0 < 2 ^ b.x
    pos = pow_pos b.x

    h : ℕ
    h = b.H * 10 ^ n

-- The places below zero do not run out: the room would be past the unit.
taken_below : (b : Scaled) (fuel n : ℕ) → D b * 10 ^ n ≤ b.H * 10 ^ n % 2 ^ b.x →
    2 ^ b.x ≤ D b * 10 ^ (n + fuel) → Taken b (places_under b fuel (suc n))
unfolding places_under under
taken_below b zero n failed far =
    absurd (omega (arith, mod-lt (b.H * 10 ^ n) (pow_pos b.x), rw add-zero at far))
taken_below b (suc fuel) n failed far =
    either (Taken b) (ltb (under b (suc n)).rest (under b (suc n)).room) (λ t. taken_under b n failed (ltb→lt _ _ t))
    (λ t. taken_below b fuel (suc n) (nltb→le _ _ t) (rw (suc-add, ← add-suc) far))

taken_from : (b : Scaled) (p : ℕ) → b.L < b.H → p ≤ c b → D b ≤ b.H % (10 ^ p * 2 ^ b.x) → Taken b (places b p)
unfolding places above
taken_from b zero apart less failed =
    taken_below b b.x 0 (simp mul-one (rw one-mul at failed)) (rw zero-add far)
  where
    some : 0 < D b
    some = omega (arith, D_between b apart)

    far : 2 ^ b.x ≤ D b * 10 ^ b.x
    far = omega (arith, pow-le-pow_left {n = 2} {m = 10} (omega arith) b.x, mul-le-mul_right (10 ^ b.x) some)
taken_from b (suc p) apart less failed =
    either (Taken b) (leb (above b p).rest (above b p).room) (λ t. taken_above b p less failed (leb→le _ _ t))
    (λ t. taken_from b p apart (le_of_lt less) (le_of_lt (nleb→lt _ _ t)))

-- The first place that passes is taken. A place before all of them would leave H, which is no less than D.
pub first_taken : (b : Scaled) → b.L < b.H → Taken b (first b)
unfolding first c
first_taken b apart = taken_from b (c b) apart (le_refl _) (rw (mod-eq_of_lt whole) (omega (arith, D_between b apart)))
  where
    whole : b.H < 10 ^ c b * 2 ^ b.x
    whole = (div-lt_iff_lt-mul (pow_pos b.x)).0 (count-above _)

-- The first place that passes fits.
pub first_fits : (b : Scaled) → b.L < b.H → Fits b (first b) (first b).rest (first b).digits
first_fits b apart = (first_taken b apart).fits

-- The last digit falls only where the rest stays within the room.
pub closer_within : (f : Place) (rest : ℕ) → T (closer f rest) → f.unit ≤ f.room - rest
unfolding closer
closer_within f rest t = leb→le _ _ (and_left (leb f.unit (f.room - rest)) _ (and_right (ltb rest f.distance) _ t))

-- However often it falls, the rest stays within the room.
pub falls_within : (f : Place) (fuel rest : ℕ) → rest ≤ f.room → rest + falls f fuel rest * f.unit ≤ f.room
unfolding falls
falls_within f zero rest h = omega arith
falls_within f (suc fuel) rest h =
    either (λ (n : ℕ). rest + n * f.unit ≤ f.room) (closer f rest)
    (λ t.
    let near = closer_within f rest t in
    omega (arith, falls_within f fuel (rest + f.unit) (omega arith)))
    (λ t. omega arith)

-- A unit is above zero.
pub unit_pos : {b : Scaled} {f : Place} {rest digits : ℕ} → Fits b f rest digits → 0 < f.unit
unit_pos {b} {f} fits = rw fits.unit (mul-pos (ten_pos f.up) (pow_pos b.x))

-- The room of a place that is taken is below ten units.
pub room_less : {b : Scaled} {f : Place} → Taken b f → f.room < 10 * f.unit
room_less {b} {f} taken = omega (arith, taken.before, taken.rest_less, mul-le-mul_right f.unit digit)
  where
    digit : f.digits % 10 ≤ 9
    digit = omega arith

module _ {b : Scaled} (apart : b.L < b.H) {f : Place} {rest digits : ℕ} (fits : Fits b f rest digits) where
  -- Digits that fall, and a rest that grows by as many units, fit while the rest stays within the room.
  pub falls_fit : (n : ℕ) → rest + n * f.unit ≤ f.room → Fits b f (rest + n * f.unit) (digits - n)
  falls_fit n within =
      record {
        unit = fits.unit;
        room = fits.room;
        sum = omega (arith, fits.sum, ap (λ (z : ℕ). z * f.unit) (sub-add_cancel enough));
        passes = within;
      }
    where
      enough : n ≤ digits
      enough =
          le_of_mul-le-mul_right {k = f.unit}
          (omega (arith, fits.sum, fits.room, ap (λ (z : ℕ). z * 10 ^ f.down) (D_between b apart))) (unit_pos fits)

  -- Digits that fit lie between the bounds.
  pub fits_between : Between b f digits
  fits_between =
      let value : digits * f.unit ≡ digits * 10 ^ f.up * 2 ^ b.x = rw (fits.unit, mul_assoc) in
      record {
        least = omega (arith, fits.sum, fits.room, fits.passes, ap (λ (z : ℕ). z * 10 ^ f.down) (D_between b apart));
        most = omega (arith, fits.sum);
      }

-- After all falls the digits and the rest fit.
pub fallen_fits : (b : Scaled) → b.L < b.H →
    Fits b (first b) ((first b).rest + fallen (first b) * (first b).unit) ((first b).digits - fallen (first b))
fallen_fits b apart =
    let fits = first_fits b apart in
    falls_fit apart fits (fallen (first b)) (falls_within (first b) 10 (first b).rest fits.passes)

-- The printed digits lie between the bounds.
pub between : (b : Scaled) → b.L < b.H → Between b (first b) ((first b).digits - fallen (first b))
between b apart = fits_between apart (fallen_fits b apart)
