-- Hex digits taken from a line one by one. Assumes nothing.
use mathlib.Core.List.{List}
use mathlib.Core.Path.{◌≡◌, refl, ◌∙◌}
use Prim.Native.Nat.{ℕ, ◌+◌, ◌*◌, ◌^◌, ◌≤◌, ◌<◌}
use native.Mathlib.Nat.{lt_of_lt_of_le, pow-le-pow_right, pow-suc, zero-lt-suc}
use native.Mathlib.Numerals.{add-one}
use native.Mathlib.Omega.{arith}
use lib.ListN.{length, drop, get_or, drop_of_length-le}
use lib.Seq.{drop-cons}
use Rattle.std.specs.Prelude.{Some, None}
use Rattle.hexline.specs.Hex.{digit, number_from}

-- After i bytes, all digits: they make v.
pub record Read (l : List ℕ) (v i : ℕ) : Type 0 where
  pub within : i ≤ length l
  pub number : number_from 0 l ≡ number_from v (drop i l)
  pub small : v < 16 ^ i

module _ {l : List ℕ} {v i : ℕ} (r : Read l v i) (h : i < length l) where
  -- The next byte is no digit.
  pub ends : digit (get_or l i 0) ≡ None → number_from 0 l ≡ None
  unfolding number_from
  ends e = r.number ∙ rw (drop-cons l i 0 h, number_from, e) refl

  -- So far the number fits a word of 60 bits ..
  pub before_it : length l ≤ 16 → v < 2 ^ 60
  before_it few = lt_of_lt_of_le r.small (pow-le-pow_right {n = 16} (zero-lt-suc 15) {i = i} {j = 15} (omega arith))

  module _ {d : ℕ} (e : digit (get_or l i 0) ≡ Some d) (less : d < 16) where
    small : v * 16 + d < 16 ^ (i + 1)
    small = rw (add-one, pow-suc 16 i) (omega (arith, r.small, less))

    -- .. and with one more digit one of 64.
    pub in_word : length l ≤ 16 → v * 16 + d < 2 ^ 64
    in_word few = lt_of_lt_of_le small (pow-le-pow_right {n = 16} (zero-lt-suc 15) {i = i + 1} {j = 16} (omega arith))

    pub read_on : Read l (v * 16 + d) (i + 1)
    unfolding number_from
    read_on = record { within = omega arith; number = r.number ∙ rw (drop-cons l i 0 h, number_from, e, add-one) refl; small = small }

-- At the line's end v is what the line makes.
pub read_end : {l : List ℕ} {v i : ℕ} → Read l v i → length l ≤ i → number_from 0 l ≡ Some v
unfolding number_from
read_end {l} r h = r.number ∙ rw (drop_of_length-le l h) refl

pub read_small : {l : List ℕ} {v i : ℕ} → Read l v i → length l ≤ i → v < 16 ^ length l
read_small {l} {v} {i} r h = let e : i ≡ length l = omega (arith, r.within) in rw (← e) r.small
