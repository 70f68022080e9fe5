-- The texts that are words, and the sign of a text. Assumes nothing.
use Rattle.std.proofs.Common.{◌≡◌, ℕ, Bool, true, false, eqb, ◌&&◌, List, [], ◌∷◌, Some, None, sym, refl, ap, ◌∙◌, true≢false, ne_eqb, eqb-true}
use Rattle.std.specs.Bool.{then_some}
use Rattle.std.specs.Cmp.Lexicographic.{pointwise}
use Rattle.rules.specs.Bytes.{bytes, minus}
use Rattle.rules.specs.Reading.{refused, notANumber, infinite, is_digit, same, unsigned, with_fraction, magnitude_of, exact}
use Rattle.scan.specs.declared.Decimal.{Decimal}
use Rattle.scan.specs.declared.Scanned.TheVariants.{Infinite, Number}
use Rattle.scan.specs.Heads.{starts, begins}
use Rattle.scan.specs.Mantissa.{mantissa, behind_sign}
use Rattle.scan.specs.Scans.{Scans, Tells}
use Rattle.scan.specs.Signs.{Signs}
use Rattle.scan.proofs.Parts.{unsigned_none}
use Rattle.scan.proofs.Signing.{at_sign}

-- The library compares texts likewise.
same_is : (t w : List ℕ) → same t w ≡ pointwise eqb t w
unfolding same
same_is [] [] = refl
same_is [] (b ∷ bs) = refl
same_is (a ∷ as') [] = refl
same_is (a ∷ as') (b ∷ bs) = ap (λ (r : Bool). eqb a b && r) (same_is as' bs)

pub compared : (t w u : List ℕ) (r : Bool) → u ≡ w → r ≡ pointwise eqb t u → same t w ≡ r
compared t w u r is e = same_is t w ∙ sym (rw is at e)

-- A text that begins with a digit is no word that does not.
other_start : (t : List ℕ) (b : ℕ) (w : List ℕ) → is_digit b ≡ false → starts t ≡ true → same t (b ∷ w) ≡ false
unfolding starts same
other_start [] b w letter digit = refl
other_start (a ∷ as') b w letter digit = rw (ne_eqb a b (λ e. true≢false (sym digit ∙ ap is_digit e ∙ letter)))

-- ---- the words

-- Their bytes.
abbrev pub nan : List ℕ
nan = 78 ∷ 97 ∷ 78 ∷ []

abbrev pub inf : List ℕ
inf = 105 ∷ 110 ∷ 102 ∷ []

spells_nan : bytes "NaN" ≡ nan
unfolding bytes
spells_nan = refl

spells_inf : bytes "inf" ≡ inf
unfolding bytes
spells_inf = refl

pub reads_nan : (t : List ℕ) → same t nan ≡ true → exact t ≡ notANumber
unfolding exact same
reads_nan [] is = absurd (true≢false (sym is))
reads_nan (b ∷ bs) is = rw (spells_nan, is, exact)

-- Any other text is its sign and its magnitude.
signed : (t : List ℕ) → same t nan ≡ false → exact t ≡ magnitude_of (begins minus t) (behind_sign (begins minus t) t)
unfolding exact magnitude_of with_fraction unsigned begins behind_sign same bytes
signed [] other = refl
signed (b ∷ bs) other = rw (other, exact) (at_sign magnitude_of b bs (eqb b minus))

module _ {t rest : List ℕ} {sign : Bool} (s : Signs t sign rest) where
  by_magnitude : same t nan ≡ false → exact t ≡ magnitude_of sign rest
  by_magnitude other = rw (s.behind, s.negative) (signed t other)

  reads_infinite : same t nan ≡ false → same rest inf ≡ true → exact t ≡ infinite sign
  unfolding magnitude_of
  reads_infinite other is = by_magnitude other ∙ rw (spells_inf, is, magnitude_of)

  by_digits : same t nan ≡ false → same rest inf ≡ false →
      exact t ≡ with_fraction sign (unsigned rest)
  unfolding magnitude_of
  by_digits other is = by_magnitude other ∙ rw (spells_inf, is, magnitude_of)

  reads_nothing : same t nan ≡ false → same rest inf ≡ false →
      starts rest ≡ false → exact t ≡ refused
  unfolding with_fraction
  reads_nothing other is digit = by_digits other is ∙ rw (unsigned_none rest digit)

  pub reads_word : same t nan ≡ false → (r : Bool) → same rest inf ≡ r → starts rest ≡ false → Scans t (then_some r (Infinite sign))
  reads_word other true is digit = reads_infinite other is
  reads_word other false is digit = reads_nothing other is digit

  -- A text with a digit behind its sign is no word.
  module _ (digit : starts rest ≡ true) where
    not_nan : same t nan ≡ false
    unfolding begins same behind_sign is_digit
    not_nan = by_sign t (begins minus t) refl (rw (s.behind, s.negative) at digit)
      where
        by_sign : (u : List ℕ) (m : Bool) → begins minus u ≡ m → starts (behind_sign m u) ≡ true → same u nan ≡ false
        by_sign [] m is first = refl
        by_sign (b ∷ bs) true is first = rw (eqb-true b minus is)
        by_sign (b ∷ bs) false is first = other_start (b ∷ bs) 78 (97 ∷ 78 ∷ []) refl first

    reads_number : exact t ≡ with_fraction sign (unsigned rest)
    unfolding is_digit
    reads_number = by_digits not_nan (other_start rest 105 (110 ∷ 102 ∷ []) refl digit)

    -- What tells of the digits tells of the text.
    pub with_sign : {y : Decimal} → Tells (unsigned rest) (mantissa 0 rest) sign (Some y) → Scans t (Some (Number y))
    unfolding with_fraction
    with_sign {y} f =
        let text : behind_sign y.negative t ≡ rest = rw f.sign (sym s.behind) in
        record {
          up = f.up;
          down = f.down;
          says = rw (text, f.sign) (reads_number ∙ rw f.says);
          kept = rw text f.kept;
          place = f.place;
          few = f.few;
          most = f.most;
          least = f.least;
        }

    pub without_number : Tells (unsigned rest) (mantissa 0 rest) sign None → Scans t None
    unfolding with_fraction
    without_number none = reads_number ∙ rw none
