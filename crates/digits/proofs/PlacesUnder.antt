-- The places below zero, tried one after the other. Assumes nothing.
use mathlib.Core.Logic.{⊎_elim}
use mathlib.Core.Path.{◌≡◌, refl, sym, ap, ◌∙◌}
use mathlib.Core.List.{List, [], ◌∷◌}
use Prim.Native.Nat.{ℕ, zero, suc, ◌+◌, ◌-◌, ◌*◌, ◌/◌, ◌%◌, ◌^◌, ◌≤◌, ◌<◌}
use native.Mathlib.Nat.{div-add-mod', div-div-eq-div-mul, div-lt_iff_lt-mul, le-div_iff_mul-le, le_of_lt, mod-le, mod-lt, mul-add-div_right, mul-add-mod_self_right, mul_assoc, mul-div-mul_right, mul-le-mul_left, mul-le-mul_right, mul-lt-mul_of_pos_right, mul-one, pow-le-pow_left, pow-le-pow_right, pow-suc, sub-zero}
use native.Mathlib.Omega.{arith}
use native.Mathlib.Numerals.{add-one}
use lib.ListN.{length}
use lib.Pow.{pow_pos}
use borrow.Author.Tests.{le-ltb, lt-ltb}
use Rattle.laws.specs.Puts.{Puts}
use Rattle.laws.proofs.Branches.{which}
use Rattle.laws.proofs.Powers.{ten_pos}
use Rattle.laws.proofs.Puts.{none}
use Rattle.rules.specs.Bytes.{byte0}
use Rattle.rules.specs.Numbers.{count, numeral}
use Rattle.rules.specs.Scaled.{Scaled, D}
use Rattle.rules.specs.Digits.{under, places_under}
use Rattle.theorems.proofs.Counting.{count_least, length-numeral}
use Rattle.digits.specs.Digits.{given, ReadyUnder, TriedUnder}
use Rattle.places.proofs.Counted.{count_front}
use Rattle.digits.proofs.PlacesAbove.{D_given}
use Rattle.put.proofs.Numerals.{one_more}

-- A place that passes is taken; after one that fails comes the next.
pub place_passes : (b : Scaled) (fuel n : ℕ) → b.H * 10 ^ n % 2 ^ b.x < D b * 10 ^ n → places_under b fuel n ≡ under b n
unfolding places_under under
place_passes b zero n passes = refl
place_passes b (suc fuel) n passes = rw (lt-ltb _ _ passes, places_under)

pub place_fails : (b : Scaled) (fuel n : ℕ) → D b * 10 ^ n ≤ b.H * 10 ^ n % 2 ^ b.x → places_under b (suc fuel) n ≡ places_under b fuel (suc n)
unfolding places_under under
place_fails b fuel n fails = rw (le-ltb _ _ fails, places_under)

-- ---- one turn on plain numbers: ten times a, in units of m

ten_times : (a m : ℕ) → a * 10 ≡ a / m * 10 * m + a % m * 10
ten_times a m = omega (arith, ap (λ (n : ℕ). n * 10) (div-add-mod' a m))

next_rest : (a m : ℕ) → a * 10 % m ≡ a % m * 10 % m
next_rest a m = rw (ten_times a m) (mul-add-mod_self_right (a / m * 10) m (a % m * 10))

next_digits : (a m : ℕ) → 0 < m → a * 10 / m ≡ a / m * 10 + a % m * 10 / m
next_digits a m pos = rw (ten_times a m) (mul-add-div_right pos (a / m * 10) (a % m * 10))

next_digit_less : (a m : ℕ) → 0 < m → a % m * 10 / m < 10
next_digit_less a m pos = (div-lt_iff_lt-mul pos).1 (omega (arith, mod-lt a pos))

-- The digits at place -n without the last n are those at and above zero.
pub front_under : (h x n : ℕ) → h * 10 ^ n / 2 ^ x / 10 ^ n ≡ h / 2 ^ x
front_under h x n = rw (div-div-eq-div-mul (h * 10 ^ n) (2 ^ x) (10 ^ n)) (mul-div-mul_right h (2 ^ x) (ten_pos n))

-- They are n more.
pub count_under : (h x n : ℕ) → 0 < h / 2 ^ x → count (h * 10 ^ n / 2 ^ x) ≡ count (h / 2 ^ x) + n
count_under h x n some =
    count_front (h * 10 ^ n / 2 ^ x) n (rw (front_under h x n) some) ∙ ap (λ (v : ℕ). count v + n) (front_under h x n)

-- ---- the turns of the loop

module _ {h delta x len room : ℕ} (ready : ReadyUnder h delta x len room) where
  within : delta ≤ h
  within = omega (arith, ready.fails, mod-le h (2 ^ x))

  module _ (n : ℕ) (fails : delta * 10 ^ n ≤ h * 10 ^ n % 2 ^ x) where
    unit_more : delta * 10 ^ n < 2 ^ x
    unit_more = omega (arith, fails, mod-lt (h * 10 ^ n) (pow_pos x))

    -- A place that fails is above -x.
    nearer : n < x
    nearer =
        ⊎_elim (λ less. less)
        (λ far.
        absurd
        (omega (
          arith,
          unit_more,
          mul-le-mul_right (10 ^ n) ready.some,
          pow-le-pow_left {n = 2} {m = 10} (omega arith) n,
          pow-le-pow_right {n = 2} (omega arith) far,
        ))) (which n x)

    -- After it there is room for one more digit.
    space : len + n < room
    space =
        let some : 0 < h / 2 ^ x = (le-div_iff_mul-le (pow_pos x)).1 (omega (arith, ready.whole)) in
        let last : suc (room - 2) ≡ room - 1 = omega (arith, ready.nine) in
        let few : h * 10 ^ n / 2 ^ x < 10 ^ suc (room - 2) =
        rw last
        ((div-lt_iff_lt-mul (pow_pos x)).1
        (omega (arith, mul-lt-mul_of_pos_right ready.few (ten_pos n), mul-le-mul_left (10 ^ (room - 1)) (le_of_lt unit_more)))) in
        omega (arith, ready.stand, ready.nine, count_least (h * 10 ^ n / 2 ^ x) (room - 2) few, count_under h x n some)

  -- Before any place is tried: as if place 0 had been one of them, and failed.
  pub none_tried : (rest : ℕ) (buf : List ℕ) → rest ≡ h % 2 ^ x → length buf ≡ room → TriedUnder h delta x len 0 len rest delta buf buf
  unfolding numeral
  none_tried rest buf is long =
      record {
        near = omega arith;
        rest_is = simp mul-one is;
        room_is = sym (mul-one delta);
        text = none buf len (omega (arith, space 0 (simp mul-one ready.fails)));
        onward = λ w. rw sub-zero;
      }

  module _ {n next rest wide : ℕ} {old mid : List ℕ} (so : TriedUnder h delta x len n next rest wide old mid) (fails : wide ≤ rest) where
    failed : delta * 10 ^ n ≤ h * 10 ^ n % 2 ^ x
    failed = rw (← so.room_is, ← so.rest_is) fails

    rest_less : rest < 2 ^ x
    rest_less = rw so.rest_is (mod-lt _ (pow_pos x))

    -- The next digit is one.
    pub digit_less : rest * 10 / 2 ^ x < 10
    digit_less = (div-lt_iff_lt-mul (pow_pos x)).1 (omega (arith, rest_less))

    -- Ten times the rest fits a u64.
    pub rest_small : rest < 2 ^ 60
    rest_small = omega (arith, rest_less, pow-le-pow_right {n = 2} (omega arith) ready.shift)

    -- More places are left.
    pub not_far : n < x
    not_far = nearer n failed

    -- Its place is within the buffer.
    pub next_less : next < room
    next_less = omega (arith, so.text.behind, length-numeral n (h * 10 ^ n / 2 ^ x), space n failed)

    digits_are : h * 10 ^ suc n / 2 ^ x ≡ h * 10 ^ n / 2 ^ x * 10 + rest * 10 / 2 ^ x
    digits_are = simp (pow-suc, ← mul_assoc) (rw so.rest_is (next_digits (h * 10 ^ n) (2 ^ x) (pow_pos x)))

    pub one_tried : {new : List ℕ} {after left : ℕ} → Puts ((byte0 + rest * 10 / 2 ^ x) ∷ []) mid next new after → left ≡ rest * 10 % 2 ^ x →
        TriedUnder h delta x len (n + 1) after left (wide * 10) old new
    one_tried {new} {after} {left} q is =
        let less = digit_less in
        let fuel : suc x - n ≡ suc (suc x - suc n) = omega (arith, nearer n failed) in
        rw add-one
        (record {
          near = nearer n failed;
          rest_is = simp (pow-suc, ← mul_assoc) (is ∙ rw so.rest_is (sym (next_rest (h * 10 ^ n) (2 ^ x))));
          room_is = rw (so.room_is, pow-suc) (mul_assoc delta (10 ^ n) 10);
          text = one_more n _ _ _ (omega (arith, digits_are)) (omega (arith, digits_are)) so.text q;
          onward = λ w. so.onward w ∙ rw fuel (place_fails (given h w delta x) _ n (rw (D_given h w delta x within) failed));
        })
