-- The digits of an exponent, one by one. Assumes nothing.
use Rattle.std.proofs.Common.{◌≡◌, ℕ, suc, ◌+◌, ◌-◌, ◌*◌, ◌^◌, ◌<◌, ◌≤◌, Bool, true, false, ◌&&◌, ltb, List, [], ◌∷◌, length, get_or, drop, refl, ◌∙◌, lt_of_lt_of_le, zero-lt-suc, arith, ltb→lt, drop_of_length-le, lt-ltb}
use native.Mathlib.Nat.{pow-le-pow_right, pow-succ'}
use Rattle.laws.proofs.Branches.{either, and_right}
use Rattle.rules.specs.Bytes.{byte0}
use Rattle.rules.specs.Reading.{Unsigned, no_number, is_digit, extended, powered, exponent_more, exponent_first}
use Rattle.scan.proofs.Passing.{cons, digit_range}

module _ (a n : ℕ) (below : Bool) where
  -- The first digit is as the others are.
  first : (b : ℕ) (bs : List ℕ) → exponent_first a n below (b ∷ bs) ≡ exponent_more a n below 0 0 (b ∷ bs)
  unfolding exponent_first exponent_more
  first b bs = by_case (exponent_more a n below (extended 0 b) 1 bs) (is_digit b)
    where
      by_case : (x : Unsigned) (d : Bool) → ◌≡◌ {A = Unsigned} (elim d [ true ↦ x | false ↦ no_number ]) (elim (d && true) [ true ↦ x | false ↦ no_number ])
      by_case x true = refl
      by_case x false = refl

  another : (e c b : ℕ) (bs : List ℕ) → is_digit b ≡ true → c < 4 → exponent_more a n below e c (b ∷ bs) ≡ exponent_more a n below (extended e b) (suc c) bs
  unfolding exponent_more
  another e c b bs digit few = rw (digit, lt-ltb c 4 few, exponent_more)

  other : (e c b : ℕ) (bs : List ℕ) → is_digit b ≡ false → exponent_more a n below e c (b ∷ bs) ≡ no_number
  unfolding exponent_more
  other e c b bs none = rw (none, exponent_more)

  -- More than four bytes are no exponent.
  many : (t : List ℕ) (e c : ℕ) → 4 < c + length t → c ≤ 4 → exponent_more a n below e c t ≡ no_number
  unfolding exponent_more
  many [] e c more most = absurd (omega arith)
  many (b ∷ bs) e c more most =
      either (λ (u : Unsigned). u ≡ no_number) (is_digit b && ltb c 4)
      (λ t. many bs (extended e b) (suc c) (omega arith) (ltb→lt c 4 (and_right (is_digit b) (ltb c 4) t))) (λ t. refl)

  pub too_many : (t : List ℕ) → 4 < length t → exponent_first a n below t ≡ no_number
  too_many [] more = absurd (omega arith)
  too_many (b ∷ bs) more = first b bs ∙ many (b ∷ bs) 0 0 (omega arith) (omega arith)

  pub too_few : (t : List ℕ) → length t ≡ 0 → exponent_first a n below t ≡ no_number
  unfolding exponent_first
  too_few [] none = refl
  too_few (b ∷ bs) none = absurd (omega arith)

-- The first i digits of an exponent, the text t, make e.
pub record Counted (t : List ℕ) (i e : ℕ) : Type 0 where
  pub small : e < 10 ^ i
  pub is : (a n : ℕ) (below : Bool) → exponent_first a n below t ≡ exponent_more a n below e i (drop i t)

pub begun : (t : List ℕ) → 0 < length t → Counted t 0 0
begun [] some = absurd (omega arith)
begun (b ∷ bs) some = record { small = zero-lt-suc 0; is = λ a n below. first a n below b bs }

module _ {t : List ℕ} {i e : ℕ} (so_far : Counted t i e) where
  pub below_limit : i ≤ 4 → e < 10000
  below_limit four = lt_of_lt_of_le so_far.small (pow-le-pow_right {n = 10} (zero-lt-suc 9) four)

  pub continued : (v : ℕ) → i < length t → i < 4 → is_digit (get_or t i 0) ≡ true → v ≡ get_or t i 0 - byte0 → Counted t (i + 1) (e * 10 + v)
  unfolding extended
  continued v in-text few digit value =
      let later : i + 1 ≡ suc i = omega arith in
      let range = digit_range _ digit in
      record {
        small = rw (later, pow-succ' 10 i) (omega (arith, so_far.small));
        is = λ a n below. so_far.is a n below ∙ rw (cons t i in-text, later, value) (another a n below e i _ _ digit few);
      }

  pub broken : i < length t → is_digit (get_or t i 0) ≡ false → (a n : ℕ) (below : Bool) → exponent_first a n below t ≡ no_number
  broken in-text none a n below = so_far.is a n below ∙ rw (cons t i in-text) (other a n below e i _ _ none)

  pub complete : length t ≤ i → (a n : ℕ) (below : Bool) → exponent_first a n below t ≡ powered a n below e
  unfolding exponent_more
  complete end a n below = so_far.is a n below ∙ rw (drop_of_length-le t end)
