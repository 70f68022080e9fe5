-- The exact reading of a printed text: its sign, and the fraction that its digits write. Assumes nothing.
use mathlib.Core.Bool.{Bool, true, false}
use mathlib.Core.List.{List, [], ◌∷◌}
use mathlib.Core.Path.{◌≡◌, ap}
use Prim.Native.Nat.{ℕ, ◌+◌, ◌≤◌, ◌<◌}
use native.Mathlib.Omega.{arith}
use lib.Dec.{leb, ltb, leb→le, ltb→lt, eqb, eqb→eq}
use Rattle.laws.proofs.Branches.{either, and_left, and_right}
use Rattle.rules.specs.Bytes.{bytes, byte0, minus}
use Rattle.rules.specs.Width.{Width}
use Rattle.rules.specs.Pattern.{negative}
use Rattle.rules.specs.Text.{signed}
use Rattle.rules.specs.Reading.{Unsigned, no_number, over, is_digit, unsigned, Exact, number, same, with_fraction, magnitude_of, exact}

-- What says no number says no fraction.
no_fraction : {n d : ℕ} → no_number ≡ over n d → ⊥
no_fraction e = let z : ◌≡◌ {A = ℕ} 0 1 = cc in omega arith

-- A number without a sign begins with a digit.
record Begins (b : ℕ) : Type 0 where
  least : byte0 ≤ b
  most : b < byte0 + 10

begins : (b : ℕ) (bs : List ℕ) {n d : ℕ} → unsigned (b ∷ bs) ≡ over n d → Begins b
unfolding unsigned is_digit
begins b bs {n} {d} =
    either (λ (r : Unsigned). r ≡ over n d → Begins b) (is_digit b)
    (λ t e.
    record {
      least = leb→le byte0 b (and_left (leb byte0 b) (ltb b (byte0 + 10)) t);
      most = ltb→lt b (byte0 + 10) (and_right (leb byte0 b) (ltb b (byte0 + 10)) t);
    })
    (λ t e. absurd (no_fraction e))

-- Behind the sign such a text is no `inf`.
magnitude_says : (s : Bool) (t : List ℕ) {n d : ℕ} → unsigned t ≡ over n d → magnitude_of s t ≡ number s n d
unfolding magnitude_of with_fraction same bytes unsigned
magnitude_says s [] e = absurd (no_fraction e)
magnitude_says s (b ∷ bs) {n} {d} e =
    let first = begins b bs e in
    either (λ (r : Exact). r ≡ number s n d) (same (b ∷ bs) (bytes "inf"))
    (λ u. absurd (omega (arith, first.most, eqb→eq b 105 (and_left (eqb b 105) (same bs (110 ∷ 102 ∷ [])) u))))
    (λ u. ap (with_fraction s) e)

-- With no sign it is neither `NaN` nor behind a `-`.
plain_says : (t : List ℕ) {n d : ℕ} → unsigned t ≡ over n d → exact t ≡ number false n d
unfolding exact same bytes unsigned
plain_says [] e = absurd (no_fraction e)
plain_says (b ∷ bs) {n} {d} e =
    let first = begins b bs e in
    either (λ (r : Exact). r ≡ number false n d) (same (b ∷ bs) (bytes "NaN"))
    (λ u. absurd (omega (arith, first.most, eqb→eq b 78 (and_left (eqb b 78) (same bs (97 ∷ 78 ∷ [])) u))))
    (λ u.
    either (λ (r : Exact). r ≡ number false n d) (eqb b minus) (λ x. absurd (omega (arith, first.least, eqb→eq b minus x)))
    (λ x. magnitude_says false (b ∷ bs) e))

minus_says : (t : List ℕ) {n d : ℕ} → unsigned t ≡ over n d → exact (minus ∷ t) ≡ number true n d
unfolding exact same bytes
minus_says t e = magnitude_says true t e

-- A text behind the pattern's sign says that sign and the fraction.
pub signed_says : (w : Width) (v : ℕ) (t : List ℕ) {n d : ℕ} → unsigned t ≡ over n d → exact (signed w v t) ≡ number (negative w v) n d
unfolding signed
signed_says w v t {n} {d} e = by_sign (negative w v)
  where
    by_sign : (s : Bool) → exact (elim s as (λ _. List ℕ) [ true ↦ minus ∷ t | false ↦ t ]) ≡ number s n d
    by_sign true = minus_says t e
    by_sign false = plain_says t e
