-- The text of every pattern but NaN is read as the pattern, infinities and both zeros too. Assumes nothing.
use mathlib.Core.Bool.{Bool, true, false}
use mathlib.Core.List.{List, ◌∷◌}
use mathlib.Core.Path.{◌≡◌, refl, sym, ap, ◌∙◌}
use Prim.Native.Nat.{ℕ, ◌*◌, ◌^◌, ◌<◌}
use native.Mathlib.Omega.{arith}
use lib.Dec.{T, eqb, eqb→eq}
use lib.Ieee.Fits.{eq→eqb}
use Rattle.laws.proofs.Branches.{taken}
use Rattle.rules.specs.Bytes.{bytes, minus}
use Rattle.rules.specs.Width.{Width}
use Rattle.rules.specs.Pattern.{negative, biased, significand, all_ones, special}
use Rattle.rules.specs.Text.{signed, text}
use Rattle.rules.specs.Reading.{infinite, same, magnitude_of, exact, infinity, with_sign}
use Rattle.rules.specs.Reader.{Reading, answered, reading}
use Rattle.theorems.proofs.Worth.{bare}
use Rattle.theorems.proofs.Signs.{rejoined}
use Rattle.theorems.proofs.ReadLength.{in_length}
use Rattle.theorems.proofs.TextLength.{text-length}
use Rattle.theorems.proofs.Printable.{Printable}
use Rattle.theorems.proofs.RoundTrip.{restored}

-- A pattern that was read.
abbrev pub Pattern : ℕ → Reading
Pattern v = record { number = 0; pattern = v }

-- An infinity's text.
infinite_says : (w : Width) (v : ℕ) → exact (signed w v (bytes "inf")) ≡ infinite (negative w v)
unfolding signed bytes exact same magnitude_of
infinite_says w v = by_sign (negative w v)
  where
    by_sign : (s : Bool) → exact (elim s [ true ↦ minus ∷ bytes "inf" | false ↦ bytes "inf" ]) ≡ infinite s
    by_sign true = refl
    by_sign false = refl

infinite_text : (w : Width) (v : ℕ) → T (special w v) → significand w v ≡ 0 → text w v ≡ signed w v (bytes "inf")
unfolding text
infinite_text w v s z = taken _ (special w v) s (taken _ (eqb (significand w v) 0) (eq→eqb z) refl)

module _ (w : Width) (q : ℕ) (p : Printable w q) (v : ℕ) (bound : v < 2 ^ w.bits) where
  -- An infinity is its sign and the infinity's pattern.
  infinity_is : T (special w v) → significand w v ≡ 0 → with_sign w (negative w v) (infinity w) ≡ v
  unfolding special infinity bare
  infinity_is s z =
      let field : biased w v ≡ all_ones w = eqb→eq (biased w v) (all_ones w) s in
      let whole : all_ones w * 2 ^ w.S ≡ bare w v = omega (arith, ap (λ (x : ℕ). x * 2 ^ w.S) field) in
      ap (with_sign w (negative w v)) whole ∙ rejoined w p.readable v bound

  -- What the text says, and the answer to it.
  answered_back : (T (special w v) → significand w v ≡ 0) → answered w (exact (text w v)) ≡ Pattern v
  unfolding answered
  answered_back no_nan = by_kind (special w v) refl
    where
      by_kind : (s : Bool) → special w v ≡ s → answered w (exact (text w v)) ≡ Pattern v
      by_kind true e =
          let t : T (special w v) = rw e tt in
          ap (λ (x : List ℕ). answered w (exact x)) (infinite_text w v t (no_nan t)) ∙ rw (infinite_says w v, answered) (ap Pattern (infinity_is t (no_nan t)))
      by_kind false e =
          let r = restored w q p v (rw e tt) bound in
          rw (r.says, answered) (ap Pattern (sym r.pattern))

  -- The text of a pattern that is no NaN is read as the pattern.
  pub read_back : (T (special w v) → significand w v ≡ 0) → reading w (text w v) ≡ Pattern v
  read_back no_nan =
      let l = text-length w q p v in
      in_length w (text w v) (omega (arith, l.least)) (omega (arith, l.most)) ∙ answered_back no_nan
