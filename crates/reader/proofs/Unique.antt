-- What a call that reads promises allows one result only. Assumes nothing.
use mathlib.Core.Bool.{true, false}
use mathlib.Core.List.{List}
use mathlib.Core.Path.{◌≡◌, refl, sym, ap, ◌∙◌}
use Prim.Native.Nat.{ℕ}
use lib.Dec.{eqb}
use Rattle.std.specs.Prelude.{Result, Ok, Err}
use Rattle.rules.specs.Width.{Width, w32, w64}
use Rattle.rules.specs.Reader.{Reading, reading}
use Rattle.reader.specs.Told.{told}
use Rattle.reader.specs.declared.ReadError.{ReadError}
use Rattle.reader.specs.declared.ReadError.TheVariants.{WrongLength, WrongForm}

-- One of three, by the number.
by_number : {P : Type 0} → (ℕ → P) → Reading → Result P ReadError
by_number found a =
    elim (eqb a.number 0) [ true ↦ Ok (found a.pattern) | false ↦ elim (eqb a.number 10) [ true ↦ Err WrongLength | false ↦ Err WrongForm ] ]

-- Where a pattern can be found from its number, an answer can be found from what it is told as.
module _ {P : Type 0} (number : P → ℕ) (found : ℕ → P) (back : (v : P) → found (number v) ≡ v) where
  told_back : (o : Result P ReadError) → by_number found (told number o) ≡ o
  unfolding by_number
  told_back (Ok v) = ap Ok (back v)
  told_back (Err WrongLength) = refl
  told_back (Err WrongForm) = refl

  -- So any two results that the contract allows are equal, at every width.
  pub read_once : (w : Width) (t : List ℕ) {o p : Result P ReadError} → told number o ≡ reading w t → told number p ≡ reading w t → o ≡ p
  read_once w t {o} {p} d e = sym (told_back o) ∙ ap (by_number found) (d ∙ sym e) ∙ told_back p

-- The same of binary32 and of binary64, whose patterns are numbers.
pub read32_once : (t : List ℕ) {o p : Result ℕ ReadError} → told (λ v. v) o ≡ reading w32 t → told (λ v. v) p ≡ reading w32 t → o ≡ p
read32_once = read_once (λ v. v) (λ v. v) (λ v. refl) w32

pub read64_once : (t : List ℕ) {o p : Result ℕ ReadError} → told (λ v. v) o ≡ reading w64 t → told (λ v. v) p ≡ reading w64 t → o ≡ p
read64_once = read_once (λ v. v) (λ v. v) (λ v. refl) w64
