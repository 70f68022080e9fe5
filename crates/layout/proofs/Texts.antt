-- The text that each rule lays out, put into a buffer that holds the digits. Assumes nothing.
use mathlib.Core.Path.{◌≡◌, refl, sym, ◌∙◌}
use mathlib.Core.List.{List, [], ◌∷◌, ◌++◌}
use Prim.Native.Nat.{ℕ, ◌+◌, ◌<◌}
use native.Mathlib.Omega.{arith}
use lib.IntN.{ℤ}
use lib.ListN.{length, take, drop, length-replicate}
use lib.Seq.{length-take-le, slice, take-take}
use borrow.Author.Tests.{eq-eqb, ne_eqb}
use Rattle.laws.specs.Puts.{Puts}
use Rattle.laws.proofs.Puts.{before, standing, then}
use Rattle.rules.specs.Bytes.{byte0, point, letter_e}
use Rattle.rules.specs.Layout.{zeros, exponent, scientific}
use Rattle.layout.specs.Layout.{Laying}

module _ (buf : List ℕ) (len : ℕ) where
  -- A point behind the first kk digits.
  pub inner_text : {mid last : List ℕ} {from end first : ℕ} (kk : ℕ) → kk < len → kk + 1 ≡ from → Puts (slice kk len buf) buf from mid end →
      Puts (point ∷ []) mid kk last first → Puts (take kk (take len buf) ++ (point ∷ drop kk (take len buf))) buf 0 last end
  inner_text kk less is p q = rw (take-take kk len buf (omega arith)) (standing (before p q is))

  -- Zeros between the point and the digits.
  pub small_text : {mid zeroed dotted last : List ℕ} {end k first j : ℕ} (z : ℕ) → Puts (slice 0 len buf) buf (0 + (z + 2)) mid end →
      Puts (byte0 ∷ []) mid 0 zeroed k → Puts (point ∷ []) zeroed k dotted first → Puts (zeros z) dotted first last j →
      Puts (byte0 ∷ point ∷ (zeros z ++ take len buf)) buf 0 last end
  unfolding zeros
  small_text z p q r s = before p (then (then q r) s) (omega (arith, length-replicate z byte0))

module _ (buf : List ℕ) (len : ℕ) (laying : Laying len (length buf)) where
  -- How many digits stand.
  pub digits_long : length (take len buf) ≡ len
  digits_long = length-take-le len buf (omega (arith, laying.few, laying.roomy))

  -- A digit by itself, and an exponent behind it.
  pub one_scientific : {last : List ℕ} {next : ℕ} (e : ℤ) → len ≡ 1 → Puts (letter_e ∷ exponent e) buf 1 last next →
      Puts (scientific (take len buf) e) buf 0 last next
  unfolding scientific
  one_scientific e is p = rw (eq-eqb (length (take len buf)) 1 (digits_long ∙ is), scientific) (rw is (standing p))

  -- A point behind the first digit, and an exponent behind the others.
  pub more_scientific : {mid dotted last : List ℕ} {end k next : ℕ} (e : ℤ) → (len ≡ 1 → ⊥) →
      Puts (slice 1 len buf) buf 2 mid end → Puts (point ∷ []) mid 1 dotted k → Puts (letter_e ∷ exponent e) dotted end last next →
      Puts (scientific (take len buf) e) buf 0 last next
  unfolding scientific
  more_scientific e more p q r =
      rw (ne_eqb (length (take len buf)) 1 (λ is. more (sym digits_long ∙ is)), scientific, take-take 1 len buf laying.some)
      (standing (then (before p q refl) r))
