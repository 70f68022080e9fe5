-- The `-` that a text, or its exponent, begins with. Assumes nothing.
use Rattle.std.proofs.Common.{◌≡◌, ℕ, Bool, true, false, eqb, List, [], ◌∷◌, ◌-◌, ◌<◌, length, get_or, take, drop, sym, refl, ap, ◌∙◌, true≢false, arith, eq-eqb, ne_eqb}
use Rattle.std.proofs.lemmas.List.{take_rest}
use Rattle.rules.specs.Bytes.{minus}
use Rattle.rules.specs.Reading.{exponent_first, exponent_sign}
use Rattle.scan.specs.Heads.{begins}
use Rattle.scan.specs.Mantissa.{behind_sign}
use Rattle.scan.specs.Passes.{Ends}
use Rattle.scan.specs.Signs.{Signs}
use Rattle.scan.proofs.Passing.{cons, ends_all, ends_drop}

-- The text behind its first byte.
pub behind_byte : (t : List ℕ) (b : ℕ) → 0 < length t → get_or t 0 0 ≡ b → t ≡ b ∷ take (length t - 1) (drop 1 t)
behind_byte t b some is = rw (take_rest t 1) (cons t 0 some ∙ ap (λ (c : ℕ). c ∷ drop 1 t) is)

pub not_begun : (b : ℕ) (t : List ℕ) → (0 < length t → get_or t 0 0 ≡ b → ⊥) → begins b t ≡ false
unfolding begins
not_begun b [] other = refl
not_begun b (c ∷ cs) other = ne_eqb c b (other (omega arith))

-- With a `-`, and without.
pub negative_head : (t : List ℕ) → 0 < length t → get_or t 0 0 ≡ minus → Signs t true (take (length t - 1) (drop 1 t))
unfolding begins behind_sign
negative_head [] some is = absurd (omega arith)
negative_head (b ∷ bs) some is = record { negative = sym (eq-eqb b minus is); behind = take_rest (b ∷ bs) 1 }

pub positive_head : (t : List ℕ) → begins minus t ≡ false → Signs t false t
unfolding behind_sign
positive_head t is = record { negative = sym is; behind = refl }

-- What goes on behind a sign goes on with it.
pub at_sign {ℓ} : {A : Type ℓ} (f : Bool → List ℕ → A) (b : ℕ) (bs : List ℕ) (m : Bool) →
    elim m as (λ _. A) [ true ↦ f true bs | false ↦ f false (b ∷ bs) ] ≡ f m (behind_sign m (b ∷ bs))
unfolding behind_sign
at_sign f b bs true = refl
at_sign f b bs false = refl

-- An exponent is its sign and its digits.
by_sign : (a n : ℕ) (t : List ℕ) → exponent_sign a n t ≡ exponent_first a n (begins minus t) (behind_sign (begins minus t) t)
unfolding exponent_sign exponent_first begins behind_sign
by_sign a n [] = refl
by_sign a n (b ∷ bs) = at_sign (exponent_first a n) b bs (eqb b minus)

pub behind : {t rest : List ℕ} {sign : Bool} → Signs t sign rest → (a n : ℕ) → exponent_sign a n t ≡ exponent_first a n sign rest
behind {t} s a n = by_sign a n t ∙ rw (s.behind, s.negative)

-- What is behind a sign is the end of the text.
pub sign_ends : {t rest : List ℕ} {sign : Bool} → Signs t sign rest → Ends t rest
unfolding begins behind_sign
sign_ends {t = []} {sign = true} s = absurd (true≢false s.negative)
sign_ends {t = b ∷ bs} {sign = true} s = rw s.behind (ends_drop 1 (b ∷ bs) (omega arith))
sign_ends {t} {sign = false} s = rw s.behind (ends_all t)
