-- The places at and above zero, tried one after the other. Assumes nothing.
use mathlib.Core.Path.{◌≡◌, sym, ◌∙◌}
use mathlib.Core.List.{List, [], ◌∷◌}
use Prim.Native.Nat.{ℕ, suc, ◌+◌, ◌-◌, ◌*◌, ◌/◌, ◌%◌, ◌^◌, ◌≤◌, ◌<◌}
use native.Mathlib.Nat.{div-div-eq-div-mul, div-lt_iff_lt-mul, mod-eq_of_lt, mod-le, mod-lt, mul_comm, pow-suc, pow-succ', zero-lt-suc}
use native.Mathlib.Omega.{arith}
use lib.Arith.{digits_div, digits_mod, mod-mul}
use lib.Pow.{pow_pos}
use borrow.Author.Tests.{le-leb, lt-leb}
use Rattle.laws.specs.Puts.{Puts}
use Rattle.laws.proofs.Powers.{ten_pos}
use Rattle.laws.proofs.Puts.{none}
use Rattle.rules.specs.Bytes.{byte0}
use Rattle.rules.specs.Numbers.{count, numeral}
use Rattle.rules.specs.Scaled.{Scaled, D}
use Rattle.rules.specs.Digits.{above, places, c, first}
use Rattle.theorems.proofs.Counting.{count-above, count_least}
use Rattle.places.specs.Places.{count_to_nine, SplitAt}
use Rattle.digits.specs.Digits.{given, ReadyAbove, TriedAbove}
use Rattle.places.proofs.Counted.{all_counted}
use Rattle.put.proofs.Numerals.{one_more}

-- D is the distance that was given.
pub D_given : (h w delta x : ℕ) → delta ≤ h → D (given h w delta x) ≡ delta
unfolding D
D_given h w delta x within = omega arith

-- A place that passes is taken; after one that fails comes the next.
pub place_passes : (b : Scaled) (k : ℕ) → b.H % (10 ^ k * 2 ^ b.x) ≤ D b → places b (suc k) ≡ above b k
unfolding places above
place_passes b k passes = rw (le-leb _ _ passes, places)

pub place_fails : (b : Scaled) (k : ℕ) → D b < b.H % (10 ^ k * 2 ^ b.x) → places b (suc k) ≡ places b k
unfolding places above
place_fails b k fails = rw (lt-leb _ _ fails, places)

-- ---- one turn on plain numbers: the digits of v = h / 2^x from the highest down

-- The digit before the last k of those that are left.
next_digit : (v k : ℕ) → v % 10 ^ suc k / 10 ^ k ≡ v / 10 ^ k % 10
next_digit v k =
    rw (pow-succ' 10 k, mod-mul v {m = 10} {c = 10 ^ k} (zero-lt-suc 9) (ten_pos k)) (digits_div (v / 10 ^ k % 10) (mod-lt v (ten_pos k)))

-- Those that are left then.
next_left : (v k : ℕ) → v % 10 ^ suc k % 10 ^ k ≡ v % 10 ^ k
next_left v k =
    rw (pow-succ' 10 k, mod-mul v {m = 10} {c = 10 ^ k} (zero-lt-suc 9) (ten_pos k)) (digits_mod (v / 10 ^ k % 10) (mod-lt v (ten_pos k)))

-- The digits at place k are those of h / 2^x without the last k.
pub digits_whole : (h x k : ℕ) → h / (10 ^ k * 2 ^ x) ≡ h / 2 ^ x / 10 ^ k
digits_whole h x k = rw (mul_comm (10 ^ k) (2 ^ x)) (sym (div-div-eq-div-mul h (2 ^ x) (10 ^ k)))

-- The digits at a place are those at the next without the last.
digits_shorter : (h x k : ℕ) → h / (10 ^ suc k * 2 ^ x) ≡ h / (10 ^ k * 2 ^ x) / 10
digits_shorter h x k =
    rw (digits_whole h x (suc k), digits_whole h x k, pow-suc 10 k) (sym (div-div-eq-div-mul (h / 2 ^ x) (10 ^ k) 10))

-- The rest at place k: the digits that are left, and what is below them.
rest_above : (h x k : ℕ) → h / 2 ^ x % 10 ^ k * 2 ^ x + h % 2 ^ x ≡ h % (10 ^ k * 2 ^ x)
rest_above h x k = sym (mod-mul h {m = 10 ^ k} {c = 2 ^ x} (ten_pos k) (pow_pos x))

-- ---- the turns of the loop

-- Where a turn begins: place k has failed, `left` are the digits below it, and `below` is what is below zero.
pub record Turn (h delta x k len rest left below : ℕ) (old new : List ℕ) : Type 0 where
  pub tried : TriedAbove h delta x k len rest old new
  pub left_is : left ≡ h / 2 ^ x % 10 ^ k
  pub below_is : below ≡ h % 2 ^ x
  pub fails : delta < rest

-- The turn that tries the place before k.
pub begun : {h delta x k len rest left below : ℕ} {old new : List ℕ} → 0 < k → Turn h delta x k len rest left below old new →
    Turn h delta x (suc (k - 1)) len rest left below old new
begun {h} {delta} {x} {k} some so = let is : suc (k - 1) ≡ k = omega arith in rw is so

module _ {h delta x room : ℕ} (ready : ReadyAbove h delta x room) where
  -- The digits at and above zero fit a u32, and are at most nine.
  pub whole_less : h / 2 ^ x < 10 ^ 9
  whole_less = (div-lt_iff_lt-mul (pow_pos x)).1 ready.short

  pub at_most_nine : count (h / 2 ^ x) ≤ 9
  at_most_nine = count_least (h / 2 ^ x) 8 whole_less

  -- Before any place is tried: as if the one above all of them had left h, and failed.
  pub first_turn : (k below : ℕ) (buf : List ℕ) → k ≡ count_to_nine (h / 2 ^ x) → below ≡ h % 2 ^ x →
      Turn h delta x k 0 h (h / 2 ^ x) below buf buf
  unfolding numeral first c
  first_turn k below buf k_is below_is =
      let all : k ≡ count (h / 2 ^ x) = k_is ∙ all_counted (h / 2 ^ x) whole_less in
      let rest : h % (10 ^ count (h / 2 ^ x) * 2 ^ x) ≡ h = mod-eq_of_lt ((div-lt_iff_lt-mul (pow_pos x)).0 (count-above _)) in
      rw all
      (record {
        tried = record {
          sum = omega arith;
          rest_is = sym rest;
          text = none buf 0 (omega arith);
          onward = λ w. sym (place_fails (given h w delta x) _ (rw (rest, D_given h w delta x (omega arith)) ready.less));
        };
        left_is = sym (mod-eq_of_lt (count-above _));
        below_is = below_is;
        fails = ready.less;
      })

  module _ {k len rest left below front back : ℕ} {old mid : List ℕ} (so : Turn h delta x (suc k) len rest left below old mid)
      (split : SplitAt left k front back) where
    front_is : front ≡ h / (10 ^ k * 2 ^ x) % 10
    front_is = rw (split.front_is, so.left_is, digits_whole h x k) (next_digit (h / 2 ^ x) k)

    -- The digits that are left.
    pub back_is : back ≡ h / 2 ^ x % 10 ^ k
    back_is = rw (split.back_is, so.left_is) (next_left (h / 2 ^ x) k)

    -- The rest at place k, which is no more than h.
    pub rest_next : back * 2 ^ x + below ≡ h % (10 ^ k * 2 ^ x)
    rest_next = rw (back_is, so.below_is) (rest_above h x k)

    pub rest_most : back * 2 ^ x + below ≤ h
    rest_most = rw rest_next (mod-le h _)

    module _ {new : List ℕ} {next shifted : ℕ} (q : Puts ((byte0 + front) ∷ []) mid len new next) (is : shifted ≡ back * 2 ^ x) where
      pub place_tried : TriedAbove h delta x k next (shifted + below) old new
      place_tried =
          let behind : next ≡ suc len = omega (arith, q.behind) in
          record {
            sum = omega (arith, so.tried.sum);
            rest_is = rw is rest_next;
            text = rw behind (one_more len _ _ front (digits_shorter h x k) front_is so.tried.text (rw behind at q));
            onward = λ w.
                so.tried.onward w
                ∙ place_fails (given h w delta x) (suc k) (rw (D_given h w delta x (omega (arith, ready.less)), ← so.tried.rest_is) so.fails);
          }

      pub next_turn : delta < shifted + below → Turn h delta x k next (shifted + below) back below old new
      next_turn fails = record { tried = place_tried; left_is = back_is; below_is = so.below_is; fails = fails }
