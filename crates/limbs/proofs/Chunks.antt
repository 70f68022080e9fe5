-- Digits read nine at a time. Assumes nothing.
use Rattle.std.proofs.Common.{◌≡◌, ℕ, ◌+◌, ◌-◌, ◌*◌, ◌≤◌, ◌<◌, List, [], ◌∷◌, length, get_or, take, drop, refl, ap, ◌∙◌, arith, length-drop}
use Rattle.std.proofs.lemmas.List.{take_rest}
use Rattle.scan.specs.Mantissa.{mantissa}
use Rattle.scan.specs.Passes.{Ends}
use Rattle.scan.proofs.Passing.{ends_drop, ends_then}
use Rattle.scan.proofs.Signing.{behind_byte}
use Rattle.limbs.specs.Chunked.{full, Chunked}
use Rattle.limbs.proofs.Digits.{digit, at_point, past_end}

-- At the text's end.
pub at_end : (t : List ℕ) → length t < 1 → (a : ℕ) → mantissa a t ≡ a
unfolding mantissa
at_end [] none a = refl
at_end (b ∷ bs) some a = absurd (omega arith)

-- At a byte that is neither a digit nor a point.
pub at_other : (t : List ℕ) → (48 ≤ get_or t 0 0 → get_or t 0 0 ≤ 57 → ⊥) → (get_or t 0 0 ≡ 46 → ⊥) → (a : ℕ) → mantissa a t ≡ a
unfolding mantissa
at_other [] no_digit no_point a = refl
at_other (b ∷ bs) no_digit no_point a = past_end a b bs no_digit no_point

-- The digits between the text t and its rest u, as far as they are read.
pub record Part (t : List ℕ) (number power : ℕ) (u : List ℕ) : Type 0 where
  pub ends : Ends t u
  pub order : length u ≤ length t
  pub ahead : 1 < power → length u < length t
  pub small : number < power
  pub reads : (a : ℕ) → mantissa a t ≡ mantissa (a * power + number) u

module _ {t : List ℕ} {number power : ℕ} {u : List ℕ} (p : Part t number power u) (more : 0 < length u) where
  -- What is behind the next byte ends the text too.
  behind_ends : Ends t (take (length u - 1) (drop 1 u))
  behind_ends = rw (take_rest u 1) (ends_then p.ends (ends_drop 1 u more))

  -- One digit more.
  pub one_digit : 48 ≤ get_or u 0 0 → get_or u 0 0 ≤ 57 → Part t (number * 10 + (get_or u 0 0 - 48)) (power * 10) (take (length u - 1) (drop 1 u))
  one_digit least most =
      let b = get_or u 0 0 in
      let rest = take (length u - 1) (drop 1 u) in
      let shorter : length rest ≡ length u - 1 = ap length (take_rest u 1) ∙ length-drop 1 u in
      record {
        ends = behind_ends;
        order = omega (arith, p.order);
        ahead = λ _. omega (arith, p.order);
        small = omega (arith, p.small);
        reads = λ a.
            p.reads a ∙ ap (mantissa (a * power + number)) (behind_byte u b more refl) ∙ digit (a * power + number) b rest least most
            ∙ ap (λ (n : ℕ). mantissa n rest) (omega arith);
      }

  -- A point more.
  pub one_point : get_or u 0 0 ≡ 46 → Part t number power (take (length u - 1) (drop 1 u))
  one_point is =
      let rest = take (length u - 1) (drop 1 u) in
      let shorter : length rest ≡ length u - 1 = ap length (take_rest u 1) ∙ length-drop 1 u in
      record {
        ends = behind_ends;
        order = omega (arith, p.order);
        ahead = λ _. omega (arith, p.order);
        small = p.small;
        reads = λ a. p.reads a ∙ ap (mantissa (a * power + number)) (behind_byte u 46 more is) ∙ at_point (a * power + number) 46 rest refl;
      }

-- A part is read, where it is full or the digits end.
pub chunked : {t : List ℕ} {number power : ℕ} {u : List ℕ} → Part t number power u → (power < full → (a : ℕ) → mantissa a u ≡ a) → Chunked t number power u
chunked p stops = record { ends = p.ends; reads = p.reads; ahead = λ l. p.ahead (omega arith); stops = stops }
