-- A pattern's text in the parts that are put one after the other. Assumes nothing.
use mathlib.Core.Bool.{Bool, true, false, not}
use mathlib.Core.List.{List, ◌∷◌, ◌++◌}
use mathlib.Core.Path.{◌≡◌, refl, sym, ◌∙◌, subst}
use Prim.Native.Nat.{ℕ, ◌≤◌}
use native.Mathlib.Omega.{arith}
use lib.Dec.{T, eqb}
use lib.ListN.{length}
use Rattle.laws.proofs.Branches.{taken}
use Rattle.rules.specs.Bytes.{bytes, minus}
use Rattle.rules.specs.Width.{Width}
use Rattle.rules.specs.Pattern.{negative, significand, special, magnitude}
use Rattle.rules.specs.Text.{shown, signed, text}
use Rattle.theorems.proofs.RoundTrip.{finite_text}
use Rattle.text.specs.Spelled.{dash, name}

-- The sign of a text is put before it.
dashed : (w : Width) (v : ℕ) (t : List ℕ) → signed w v t ≡ dash (negative w v) ++ t
unfolding signed
dashed w v t = by_sign (negative w v)
  where
    by_sign : (s : Bool) → elim s as (λ _. List ℕ) [ true ↦ minus ∷ t | false ↦ t ] ≡ dash s ++ t
    by_sign true = refl
    by_sign false = refl

-- The text of a pattern whose exponent bits are all ones is a name.
pub special-text : (w : Width) (v : ℕ) → T (special w v) → text w v ≡ name (negative w v) (eqb (significand w v) 0)
unfolding text
special-text w v h = taken _ (special w v) h (by_significand (eqb (significand w v) 0))
  where
    by_significand : (z : Bool) → elim z as (λ _. List ℕ) [ true ↦ signed w v (bytes "inf") | false ↦ bytes "NaN" ] ≡ name (negative w v) z
    by_significand true = dashed w v (bytes "inf")
    by_significand false = refl

-- The text of any other is a sign and the text of its magnitude.
pub ordinary_text : (w : Width) (v : ℕ) → T (not (special w v)) → text w v ≡ dash (negative w v) ++ shown w (magnitude w v)
ordinary_text w v h = finite_text w v h ∙ dashed w v (shown w (magnitude w v))

-- A sign has at most one byte.
pub dash_short : (s : Bool) → length (dash s) ≤ 1
dash_short true = omega arith
dash_short false = omega arith

-- What a test in the code found is what the rules have.
pub found : {a b : Bool} → a ≡ b → a ≡ true → T b
found e t = subst T (sym t ∙ e) tt

pub found_not : {a b : Bool} → a ≡ b → a ≡ false → T (not b)
found_not e t = subst (λ (x : Bool). T (not x)) (sym t ∙ e) tt
