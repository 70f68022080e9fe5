-- What stands behind the digits of a number: nothing, or an exponent. Assumes nothing.
use Rattle.std.proofs.Common.{◌≡◌, ℕ, ◌<◌, Bool, true, false, List, [], ◌∷◌, Option, None, Some, OnSome, ◌-◌, length, get_or, take, drop, subst, sym, refl, ◌∙◌, ap₂, add-zero, arith, pow-add, ne_eqb}
use Rattle.rules.specs.Bytes.{letter_e}
use Rattle.rules.specs.Reading.{Unsigned, no_number, over, is_digit, powered, exponent_sign, decimals_more}
use Rattle.scan.specs.Heads.{starts}
use Rattle.scan.specs.Mantissa.{mantissa}
use Rattle.scan.specs.Raises.{Power, Raises, Shifts}
use Rattle.scan.proofs.Signing.{behind_byte}

module _ {f : ℕ → ℕ → Unsigned} where
  pub shifts : (e r : ℕ) (negative : Bool) → e < 10000 → Shifts negative e r → ((a n : ℕ) → f a n ≡ powered a n negative e) → Power f r
  unfolding powered
  shifts e r true less place is =
      record {
        up = 0;
        down = e;
        is = λ a n. is a n ∙ ap₂ over (omega arith) (sym (pow-add 10 n e));
        place = place;
        least = omega arith;
        most = omega arith;
      }
  shifts e r false less place is =
      record { up = e; down = 0; is = λ a n. is a n ∙ rw (add-zero n); place = omega arith; least = omega arith; most = omega arith }

  pub same_power : {g : ℕ → ℕ → Unsigned} (r : Option ℕ) → ((a n : ℕ) → f a n ≡ g a n) → Raises g r → Raises f r
  same_power None is none = λ a n. is a n ∙ none a n
  same_power (Some r) is q =
      record { up = q.up; down = q.down; is = λ a n. is a n ∙ q.is a n; place = q.place; least = q.least; most = q.most }

-- What behind digits, at the head of the text t, says of them.
abbrev Behind : List ℕ → Option ℕ → Type 0
Behind t r = Raises (λ a n. decimals_more a n t) r × OnSome r ((a : ℕ) → mantissa a t ≡ a)

-- At the end of the text.
pub raised_end : (t : List ℕ) → length t < 1 → Behind t (Some 10000)
unfolding decimals_more mantissa
raised_end [] few = (
  record {
    up = 0;
    down = 0;
    is = λ a n. ap₂ over (omega arith) (rw (add-zero n));
    place = omega arith;
    least = omega arith;
    most = omega arith;
  },
  λ a. refl,
)
raised_end (b ∷ bs) few = absurd (omega arith)

-- At an `e`.
decimals_exponent : (bs : List ℕ) (a n : ℕ) → decimals_more a n (letter_e ∷ bs) ≡ exponent_sign a n bs
unfolding decimals_more is_digit
decimals_exponent bs a n = refl

mantissa-exponent : (bs : List ℕ) (a : ℕ) → mantissa a (letter_e ∷ bs) ≡ a
unfolding mantissa is_digit
mantissa-exponent bs a = refl

pub raised_exponent : (t : List ℕ) → 0 < length t → get_or t 0 0 ≡ letter_e → (r : Option ℕ) →
    Raises (λ a n. exponent_sign a n (take (length t - 1) (drop 1 t))) r → Behind t r
raised_exponent t some is r raises =
    let rest = take (length t - 1) (drop 1 t) in
    subst (λ (u : List ℕ). Behind u r) (sym (behind_byte t letter_e some is)) (same_power r (decimals_exponent rest) raises, ends r)
  where
    ends : (o : Option ℕ) → OnSome o ((a : ℕ) → mantissa a (letter_e ∷ take (length t - 1) (drop 1 t)) ≡ a)
    ends None = tt
    ends (Some x) = mantissa-exponent (take (length t - 1) (drop 1 t))

-- At any other byte that is no digit.
pub raised_other : (t : List ℕ) → 0 < length t → (get_or t 0 0 ≡ letter_e → ⊥) → starts t ≡ false → (a n : ℕ) → decimals_more a n t ≡ no_number
unfolding starts decimals_more
raised_other [] some other none a n = absurd (omega arith)
raised_other (b ∷ bs) some other none a n = rw (none, ne_eqb b letter_e other, decimals_more)
