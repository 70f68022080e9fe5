-- The first place that passes, at or above zero or below it, as the rules have it. Assumes nothing.
use mathlib.Core.Path.{◌≡◌, refl, sym, ap, ◌∙◌}
use mathlib.Core.List.{List, ◌++◌}
use Prim.Native.Nat.{ℕ, suc, ◌+◌, ◌-◌, ◌*◌, ◌/◌, ◌%◌, ◌^◌, ◌≤◌, ◌<◌}
use native.Mathlib.Nat.{add-zero, div-lt_iff_lt-mul, le-div_iff_mul-le, le_of_lt, le_trans, mul-one, one-mul, pow-le-pow_right, zero-lt-suc}
use native.Mathlib.Omega.{arith}
use lib.IntN.{ℤ, pos, sub_ℕ}
use lib.ListN.{get_or, set}
use lib.Pow.{pow_pos}
use Rattle.laws.specs.Puts.{Puts}
use Rattle.laws.proofs.Powers.{ten_pos}
use Rattle.laws.proofs.Puts.{then}
use Rattle.laws.proofs.Differences as difference
use Rattle.rules.specs.Numbers.{count, numeral}
use Rattle.rules.specs.Scaled.{D}
use Rattle.rules.specs.Digits.{above, under, places, c, first, falls}
use Rattle.theorems.proofs.Counting.{count_least, count_pos, length-numeral}
use Rattle.theorems.proofs.Places.{first_fits, first_taken, room_less}
use Rattle.theorems.proofs.LastDigit.{distance_most, first_settled}
use Rattle.places.specs.Places.{distance_under, measure}
use Rattle.digits.specs.Digits.{given, Ready, ReadyUnder, TriedAbove, EndedAbove, EndedUnder, Found, Generated}
use Rattle.places.proofs.Counted.{count-below, count_front}
use Rattle.places.proofs.Falls.{measured}
use Rattle.put.proofs.Numerals.{numeral_joined, last_digit, lowered}
use Rattle.digits.proofs.PlacesAbove as above_zero
use Rattle.digits.proofs.PlacesAbove.{D_given, digits_whole}
use Rattle.digits.proofs.PlacesUnder as below-zero
use Rattle.digits.proofs.PlacesUnder.{front_under, count_under}

module _ {h w delta x room : ℕ} (ready : Ready h w delta x room) where
  is_D : D (given h w delta x) ≡ delta
  is_D = D_given h w delta x (omega (arith, ready.less))

  apart : h - delta < h
  apart = omega (arith, ready.some, ready.less)

  whole_some : 0 < h / 2 ^ x
  whole_some = (le-div_iff_mul-le (pow_pos x)).1 (omega (arith, ready.whole))

  -- A place at or above zero that passes.
  module _ {k len rest : ℕ} {old new : List ℕ} (end : EndedAbove h delta x k len rest old new) (passes : rest ≤ delta) where
    is_above : first (given h w delta x) ≡ above (given h w delta x) k
    is_above = end.tried.onward w ∙ above_zero.place_passes (given h w delta x) k (rw (is_D, ← end.tried.rest_is) passes)

    -- It is not above all digits.
    below-count : k < count (h / 2 ^ x)
    unfolding above c
    below-count = rw is_above at (first_taken (given h w delta x) apart).up_less

    pub below_nine : k < 9
    below_nine = omega (arith, below-count, count_least (h / 2 ^ x) 8 ((div-lt_iff_lt-mul (pow_pos x)).1 ready.short))

    reaches : 10 ^ k ≤ h / 2 ^ x
    reaches = le_trans (pow-le-pow_right {n = 10} (zero-lt-suc 9) (omega (arith, below-count))) (count-below (h / 2 ^ x) whole_some)

    -- Its unit is no more than h.
    pub unit_most : 10 ^ k * 2 ^ x ≤ h
    unit_most = (le-div_iff_mul-le (pow_pos x)).0 reaches

    pub found_above : {place : ℤ} {unit : ℕ} → place ≡ pos k → unit ≡ 10 ^ k * 2 ^ x → Found (first (given h w delta x)) len place unit delta (h - w) rest old new
    unfolding above
    found_above place_is unit_is =
        rw is_above
        (record {
          len_is =
              rw (digits_whole h x k)
              (omega (arith, end.tried.sum, count_front (h / 2 ^ x) k ((le-div_iff_mul-le (ten_pos k)).1 (omega (arith, reaches)))));
          place_is = place_is ∙ difference.is_pos k k 0 (add-zero k);
          unit_is = unit_is;
          room_is = sym is_D;
          distance_is = refl;
          rest_is = end.tried.rest_is;
          text = end.tried.text;
        })

  -- A place below zero that passes, where place 0 had failed.
  module _ {k len rest : ℕ} {old mid : List ℕ} (end : EndedAbove h delta x k len rest old mid) (fails : delta < rest) where
    tried : TriedAbove h delta x 0 len rest old mid
    tried = rw (end.failed fails) at end.tried

    digits_stand : len ≡ count (h / 2 ^ x)
    digits_stand = omega (arith, tried.sum)

    zero_fails : delta < h % 2 ^ x
    zero_fails = rw (tried.rest_is, one-mul) at fails

    pub ready_under : ReadyUnder h delta x len room
    ready_under =
        record {
          some = ready.some;
          fails = le_of_lt zero_fails;
          whole = ready.whole;
          shift = ready.shift;
          stand = digits_stand;
          nine = ready.nine;
          few = ready.few;
        }

    module _ {n next left wide : ℕ} {new : List ℕ} (low : EndedUnder h delta x len n next left wide mid new) where
      is_under : first (given h w delta x) ≡ under (given h w delta x) n
      unfolding places
      is_under =
          let b = given h w delta x in
          tried.onward w ∙ above_zero.place_fails b 0 (rw (is_D, one-mul) zero_fails)
          ∙ sym (below-zero.place_fails b x 0 (simp (is_D, mul-one) (le_of_lt zero_fails)))
          ∙ low.tried.onward w
          ∙ below-zero.place_passes b (suc x - n) n (rw (is_D, ← low.tried.room_is, ← low.tried.rest_is) low.passes)

      -- The distance fits a u64.
      pub distance_small : (h - w) * 10 ^ n ≤ 10 * 2 ^ x
      unfolding under
      distance_small = rw is_under at (distance_most (given h w delta x) apart (omega (arith, ready.low)))

      joined : next ≡ len + n → numeral next (h * 10 ^ n / 2 ^ x) ≡ numeral len (h / 2 ^ x) ++ numeral n (h * 10 ^ n / 2 ^ x)
      joined long = rw (long, numeral_joined len n, front_under h x n)

      pub found_under : {place : ℤ} {unit distance : ℕ} → place ≡ sub_ℕ 0 n → unit ≡ 2 ^ x → distance ≡ distance_under (h - w) n →
          Found (first (given h w delta x)) next place unit wide distance left old new
      unfolding under distance_under
      found_under place_is unit_is distance_is =
          let long : next ≡ len + n = omega (arith, low.tried.text.behind, length-numeral n (h * 10 ^ n / 2 ^ x)) in
          rw is_under
          (record {
            len_is = omega (arith, digits_stand, count_under h x n whole_some);
            place_is = place_is;
            unit_is = unit_is;
            room_is = low.tried.room_is ∙ ap (λ (d : ℕ). d * 10 ^ n) (sym is_D);
            distance_is = distance_is;
            rest_is = low.tried.rest_is;
            text = rw (joined long) (then (rw one-mul at tried.text) low.tried.text);
          })

  -- The last digit, lowered by its falls.
  module _ {len unit wide distance rest : ℕ} {place : ℤ} {old new : List ℕ}
      (found : Found (first (given h w delta x)) len place unit wide distance rest old new) where
    -- What counting the falls asks.
    pub within_room : rest ≤ wide
    within_room = rw (found.rest_is, found.room_is) (first_fits (given h w delta x) apart).passes

    pub few_units : wide < rest + 10 * unit
    few_units = omega (arith, found.room_is, found.unit_is, room_less (first_taken (given h w delta x) apart))

    pub some_digit : 1 ≤ len
    some_digit = rw found.len_is (count_pos _)

    module _ {fallen : ℕ} (is : fallen ≡ falls (measure unit wide distance) 10 rest) where
      as_ruled : fallen ≡ falls (first (given h w delta x)) 10 (first (given h w delta x)).rest
      as_ruled = is ∙ rw (found.unit_is, found.room_is, found.distance_is, found.rest_is) (measured (first (given h w delta x)) 10 _)

      few : fallen ≤ (first (given h w delta x)).digits % 10
      few = rw as_ruled (first_settled (given h w delta x) apart).most

      long : suc (len - 1) ≡ len
      long = omega (arith, some_digit)

      text : Puts (numeral (suc (len - 1)) (first (given h w delta x)).digits) old 0 new len
      text = rw long found.text

      -- It is no more than the byte of the last digit.
      pub below_byte : fallen ≤ get_or new (len - 1) 0
      below_byte = omega (arith, few, last_digit (len - 1) _ text)

      pub generated : Generated (first (given h w delta x)) len place old (set new (len - 1) (get_or new (len - 1) 0 - fallen))
      generated =
          record {
            len_is = found.len_is;
            place_is = found.place_is;
            text = rw (← as_ruled) (rw long at (lowered (len - 1) _ text fallen few));
          }
