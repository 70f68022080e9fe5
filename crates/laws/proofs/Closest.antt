-- `closest a b` is the whole number nearest to a / b, ties to the even one. Assumes nothing.
use mathlib.Core.Bool.{not}
use mathlib.Core.Logic.{⊎_elim}
use mathlib.Core.Path.{◌≡◌, subst}
use Prim.Native.Nat.{ℕ, suc, ◌+◌, ◌*◌, ◌/◌, ◌%◌, ◌≤◌, ◌<◌, compare, Ordering}
use native.Mathlib.Nat.{mod-lt, div-add-mod', le_antisymm, le_trans, mul-le-mul_right, le-div_iff_mul-le, div-lt_iff_lt-mul}
use native.Mathlib.Omega.{arith}
use lib.Arith.{lt_of_le-ne}
use lib.Dec.{T, is_le, compare_is_eq, eqb, leb→le, nleb→lt, eqb→eq, eqb_refl}
use lib.Ieee.{nearest}
use lib.Ieee.Fits.{nearest-le}
use lib.Ieee.Nearest.{closest, nearest-ge}
use Rattle.laws.proofs.Branches.{which}

-- What an outcome of `compare a b` says.
abbrev pub Compared : Ordering → ℕ → ℕ → Type 0
Compared Ordering.lt a b = a < b
Compared Ordering.eq a b = a ≡ b
Compared Ordering.gt a b = b < a

-- `compare` tells how two numbers are ordered.
pub compared : (a b : ℕ) → Compared (compare a b) a b
compared a b =
    told (compare a b) (leb→le a b) (nleb→lt a b) (eqb→eq a b) (λ (e : a ≡ b). subst (λ (x : ℕ). T (eqb a x)) e (eqb_refl a))
  where
    told : (o : Ordering) → (T (is_le o) → a ≤ b) → (T (not (is_le o)) → b < a) → (T (compare_is_eq o) → a ≡ b) → (a ≡ b → T (compare_is_eq o)) →
        Compared o a b
    told Ordering.lt le gt eq same = lt_of_le-ne (le tt) same
    told Ordering.eq le gt eq same = eq tt
    told Ordering.gt le gt eq same = gt tt

-- q is at most a half from a / b, and less if q is odd.
pub record Closest (a b q : ℕ) : Type 0 where
  pub up : 2 * a + q % 2 ≤ 2 * (q * b) + b
  pub down : 2 * (q * b) + q % 2 ≤ 2 * a + b

-- `closest` is so.
pub is_closest : (a b : ℕ) → 0 < b → Closest a b (closest a b)
is_closest a b B = by_order (compare (a % b * 2) b) (compared (a % b * 2) b)
  where
    whole : a / b * b + a % b ≡ a
    whole = div-add-mod' a b

    by_order : (o : Ordering) → Compared o (a % b * 2) b → Closest a b (nearest (a / b) o)
    by_order Ordering.lt c = record { up = omega (arith, whole); down = omega (arith, whole) }
    by_order Ordering.eq c =
        ⊎_elim
        (λ (even : a / b % 2 < 1).
        let e : a / b + a / b % 2 ≡ a / b = omega arith in
        rw e (record { up = omega (arith, whole); down = omega (arith, whole) }))
        (λ (odd : 1 ≤ a / b % 2).
        let e : a / b + a / b % 2 ≡ suc (a / b) = omega arith in
        rw e (record { up = omega (arith, whole); down = omega (arith, whole) }))
        (which (a / b % 2) 1)
    by_order Ordering.gt c = record { up = omega (arith, whole, mod-lt a B); down = omega (arith, whole, mod-lt a B) }

-- No two numbers are so.
pub one_closest : {a b p q : ℕ} → 0 < b → Closest a b p → Closest a b q → p ≡ q
one_closest {a} {b} {p} {q} B x y = le_antisymm (no_more x y) (no_more y x)
  where
    no_more : {r s : ℕ} → Closest a b r → Closest a b s → r ≤ s
    no_more {r} {s} n o =
        ⊎_elim
        (λ (less : s < r).
        ⊎_elim (λ (far : suc s < r). absurd (omega (arith, n.down, o.up, mul-le-mul_right b far)))
        (λ (near : r ≤ suc s). let next : r ≡ suc s = omega arith in absurd (omega (arith, rw next at n.down, o.up))) (which (suc s) r))
        (λ le. le) (which s r)

-- `closest` does not leave the whole numbers that a / b lies between.
pub closest_most : (a b q : ℕ) → 0 < b → a < q * b → closest a b ≤ q
closest_most a b q B less = le_trans (nearest-le (a / b) (compare (a % b * 2) b)) ((div-lt_iff_lt-mul B).1 less)

pub closest_least : (a b q : ℕ) → 0 < b → q * b ≤ a → q ≤ closest a b
closest_least a b q B more = le_trans ((le-div_iff_mul-le B).1 more) (nearest-ge (a / b) (compare (a % b * 2) b))
