-- What a branch on a test leaves to prove, and tests joined by `&&`. Assumes nothing.
use mathlib.Core.Bool.{Bool, true, false, not, ◌&&◌}
use mathlib.Core.Logic.{◌⊎◌, inl, inr, ⊎_elim}
use mathlib.Core.Path.{◌≡◌, refl, sym}
use Prim.Native.Nat.{ℕ, ◌≤◌, ◌<◌}
use native.Mathlib.Nat.{eq-or-lt_of_le}
use lib.Dec.{T, ltb, ltb→lt, nltb→le}

-- A branch has a property if each side has it under its own outcome of the test.
pub either {ℓ κ} : {A : Type ℓ} (Q : A → Type κ) {x y : A} (t : Bool) → (T t → Q x) → (T (not t) → Q y) →
    Q (elim t as (λ _. A) [ true ↦ x | false ↦ y ])
either Q true yes-side no-side = yes-side tt
either Q false yes-side no-side = no-side tt

-- A test that passes takes its first branch, whatever the other.
pub taken {ℓ} : {A : Type ℓ} {x z : A} (y : A) (t : Bool) → T t → x ≡ z → elim t as (λ _. A) [ true ↦ x | false ↦ y ] ≡ z
taken y true h e = e
taken y false h e = absurd h

-- Two branches on one test are equal where their sides are.
pub alike {ℓ} : {A : Type ℓ} {x y u z : A} (t : Bool) → (T t → x ≡ u) → (T (not t) → y ≡ z) →
    ◌≡◌ {A = A} (elim t as (λ _. A) [ true ↦ x | false ↦ y ]) (elim t as (λ _. A) [ true ↦ u | false ↦ z ])
alike true yes-side no-side = yes-side tt
alike false yes-side no-side = no-side tt

-- The outcome of a test, as an equation.
pub is_true : (t : Bool) → T t → t ≡ true
is_true true h = refl
is_true false h = absurd h

pub is_false : (t : Bool) → T (not t) → t ≡ false
is_false true h = absurd h
is_false false h = refl

pub and_left : (a b : Bool) → T (a && b) → T a
and_left true b h = tt
and_left false b h = h

pub and_right : (a b : Bool) → T (a && b) → T b
and_right true b h = h
and_right false b h = absurd h

pub and_both : (a b : Bool) → T a → T b → T (a && b)
and_both true b x y = y
and_both false b x y = x

-- Where `&&` fails though the second test passes, the first fails.
pub and_not_left : (a b : Bool) → T b → T (not (a && b)) → T (not a)
and_not_left true true x y = y
and_not_left true false x y = absurd x
and_not_left false b x y = tt

-- Where `&&` fails though the first test passes, the second fails.
pub and_not_right : (a b : Bool) → T a → T (not (a && b)) → T (not b)
and_not_right true b x y = y
and_not_right false b x y = absurd x

-- Of two numbers one is below the other or not.
pub which : (a b : ℕ) → (a < b) ⊎ (b ≤ a)
which a b = told (ltb a b) (ltb→lt a b) (nltb→le a b)
  where
    told : (t : Bool) → (T t → a < b) → (T (not t) → b ≤ a) → (a < b) ⊎ (b ≤ a)
    told true less more = inl (less tt)
    told false less more = inr (more tt)

pub three_ways : (a b : ℕ) → (a < b) ⊎ ((a ≡ b) ⊎ (b < a))
three_ways a b = ⊎_elim (λ less. inl less) (λ more. inr (⊎_elim (λ e. inl (sym e)) (λ l. inr l) (eq-or-lt_of_le more))) (which a b)
