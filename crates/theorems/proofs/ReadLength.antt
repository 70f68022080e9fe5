-- Which texts are read and which are refused by their length. Assumes nothing.
use mathlib.Core.Bool.{Bool, true, false, not, ◌||◌}
use mathlib.Core.List.{List}
use mathlib.Core.Path.{◌≡◌, refl, ap}
use Prim.Native.Nat.{ℕ, ◌≤◌, ◌<◌}
use native.Mathlib.Omega.{arith}
use lib.Arith.{le→nltb}
use lib.Dec.{T, ltb, eqb, eqb→eq, lt→ltb, not_T}
use lib.Ieee.Fits.{eq→eqb}
use lib.ListN.{length}
use Rattle.rules.specs.Width.{Width}
use Rattle.rules.specs.Reading.{exact}
use Rattle.rules.specs.Reader.{Reading, answered, unread, reading}

neither : (a b : Bool) → T (not a) → T (not b) → (a || b) ≡ false
neither true b x y = absurd x
neither false true x y = absurd y
neither false false x y = refl

first : (a b : Bool) → T a → (a || b) ≡ true
first true b x = refl
first false b x = absurd x

second : (a b : Bool) → T b → (a || b) ≡ true
second true b x = refl
second false true x = refl
second false false x = absurd x

module _ (w : Width) (t : List ℕ) where
  by_length : Bool → Reading
  by_length b = elim b [ true ↦ record { number = 10; pattern = 0 } | false ↦ answered w (exact t) ]

  -- From 1 to 64 bytes a text is read as what it says.
  pub in_length : 0 < length t → length t ≤ 64 → reading w t ≡ answered w (exact t)
  unfolding reading unread by_length
  in_length some few =
      let n = length t in
      ap by_length (neither (eqb n 0) (ltb 64 n) (not_T (eqb n 0) (λ e. omega (arith, eqb→eq n 0 e))) (le→nltb 64 n few))

  -- No byte, and more than 64, are refusal 10.
  pub empty_refused : length t ≡ 0 → reading w t ≡ record { number = 10; pattern = 0 }
  unfolding reading unread by_length
  empty_refused none = let n = length t in ap by_length (first (eqb n 0) (ltb 64 n) (eq→eqb none))

  pub long_refused : 64 < length t → reading w t ≡ record { number = 10; pattern = 0 }
  unfolding reading unread by_length
  long_refused more = let n = length t in ap by_length (second (eqb n 0) (ltb 64 n) (lt→ltb 64 n more))
