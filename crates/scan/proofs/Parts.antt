-- The digits of a text before its point, and those behind it. Assumes nothing.
use Rattle.std.proofs.Common.{◌≡◌, ℕ, ◌<◌, true, false, List, [], ◌∷◌, sym, refl, ◌∙◌, true≢false, zero-add, arith}
use Rattle.rules.specs.Bytes.{point}
use Rattle.rules.specs.Reading.{no_number, is_digit, unsigned, whole_more, decimals_first, decimals_more}
use Rattle.scan.specs.Heads.{starts, begins}
use Rattle.scan.specs.Mantissa.{mantissa}
use Rattle.scan.specs.Passes.{Passes, none, more}
use Rattle.scan.proofs.Passing.{along}

-- A text that begins with digits begins with a digit.
first_passed : {a n c : ℕ} {t u : List ℕ} → Passes a t n c u → 0 < n → starts t ≡ true
unfolding starts
first_passed none some = absurd (omega arith)
first_passed (more d p) some = d

-- The first digit is as the others are.
unsigned_whole : (t : List ℕ) → starts t ≡ true → unsigned t ≡ whole_more 0 t
unfolding starts unsigned whole_more
unsigned_whole [] is = absurd (true≢false (sym is))
unsigned_whole (b ∷ bs) is = rw (is, unsigned, whole_more)

decimals_first_lem : (a : ℕ) (t : List ℕ) → starts t ≡ true → decimals_first a t ≡ decimals_more a 0 t
unfolding starts decimals_first decimals_more
decimals_first_lem a [] is = absurd (true≢false (sym is))
decimals_first_lem a (b ∷ bs) is = rw (is, decimals_first, decimals_more)

-- Where there is none, there is no number.
pub unsigned_none : (t : List ℕ) → starts t ≡ false → unsigned t ≡ no_number
unfolding starts unsigned
unsigned_none [] is = refl
unsigned_none (b ∷ bs) is = rw (is, unsigned)

pub decimals_none : (a : ℕ) (t : List ℕ) → starts t ≡ false → decimals_first a t ≡ no_number
unfolding starts decimals_first
decimals_none a [] is = refl
decimals_none a (b ∷ bs) is = rw (is, decimals_first)

-- The digits passed.
module _ {a n c : ℕ} {t u : List ℕ} (p : Passes a t n c u) where
  whole_passed : whole_more a t ≡ whole_more c u
  unfolding whole_more
  whole_passed = along (λ x m. whole_more x) (λ x m b bs d. rw (d, whole_more)) 0 p

  pub mantissa_passed : mantissa a t ≡ mantissa c u
  unfolding mantissa
  mantissa_passed = along (λ x m. mantissa x) (λ x m b bs d. rw (d, mantissa)) 0 p

  pub decimals_passed : 0 < n → decimals_first a t ≡ decimals_more c n u
  unfolding decimals_more
  decimals_passed some = decimals_first_lem a t (first_passed p some) ∙ along decimals_more (λ x m b bs d. rw (d, decimals_more)) 0 p ∙ rw (zero-add n)

pub unsigned_passed : {n c : ℕ} {t u : List ℕ} → Passes 0 t n c u → starts t ≡ true → unsigned t ≡ whole_more c u
unsigned_passed {t = t} p some = unsigned_whole t some ∙ whole_passed p

-- Without a point, it is as if none of the digits were behind it.
pub no_point : (a : ℕ) (t : List ℕ) → starts t ≡ false → begins point t ≡ false → whole_more a t ≡ decimals_more a 0 t
unfolding starts begins whole_more decimals_more
no_point a [] digit dot = refl
no_point a (b ∷ bs) digit dot = rw (digit, dot, whole_more, decimals_more)

-- At the point.
module _ (a : ℕ) (bs : List ℕ) where
  pub point_whole : whole_more a (point ∷ bs) ≡ decimals_first a bs
  unfolding whole_more is_digit
  point_whole = refl

  pub point-mantissa : mantissa a (point ∷ bs) ≡ mantissa a bs
  unfolding mantissa is_digit
  point-mantissa = refl
