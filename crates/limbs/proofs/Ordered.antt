-- Two numbers of as many limbs are ordered by the highest limb in which they differ. Assumes nothing.
use mathlib.Core.Path.{◌≡◌, refl, sym, ap, ap₂, subst, subst₂, ◌∙◌}
use mathlib.Core.List.{List, [], ◌∷◌, ◌++◌, reverse, reverse-cons, reverse-reverse}
use Prim.Native.Nat.{ℕ, suc, ◌+◌, ◌*◌, ◌^◌, ◌≤◌, ◌<◌}
use native.Mathlib.Nat.{mul-le-mul_right, suc-mul}
use native.Mathlib.Omega.{arith}
use lib.ListN.{get_or, get_or-append, length, length-append, length-reverse}
use lib.Seq.{get_or-append_seam}
use Rattle.std.specs.declared.cmp.Ordering.{Ordering}
use Rattle.std.specs.declared.cmp.Ordering.TheVariants.{Less, Equal, Greater}
use Rattle.std.specs.Cmp.Lexicographic.{slice_cmp}
use Rattle.std.specs.Ordering.{MatchOrdering, nat_cmp, ordering_then}
use Rattle.std.proofs.lemmas.Cmp.{ranked}
use Rattle.std.proofs.lemmas.List.{get_or-reverse}
use Rattle.limbs.specs.Stands.{Stands}
use Rattle.limbs.specs.Total.{low, total}
use Rattle.limbs.proofs.Low.{low-suc, low_same, low_lt}

-- All limbs have 32 bits.
abbrev Within : List ℕ → Type 0
Within l = (k : ℕ) → k < length l → get_or l k 0 < 2 ^ 32

within_reverse : (l : List ℕ) → Within l → Within (reverse l)
within_reverse l h k less =
    let n : length (reverse l) ≡ length l = length-reverse l in
    subst (λ (x : ℕ). x < 2 ^ 32) (sym (get_or-reverse l k 0 (omega (arith, less, n)))) (h _ (omega (arith, less, n)))

within_rest : (x : ℕ) (xs : List ℕ) → Within (x ∷ xs) → Within xs
within_rest x xs h k less = h (suc k) (omega (arith, less))

-- A limb more above the others.
total_push : (l : List ℕ) (x : ℕ) → total (l ++ x ∷ []) ≡ total l + x * 2 ^ (32 * length l)
unfolding total
total_push l x =
    let n : length (l ++ x ∷ []) ≡ suc (length l) = length-append l (x ∷ []) ∙ omega (arith) in
    ap (low (l ++ x ∷ [])) n
    ∙ low-suc (l ++ x ∷ []) (length l)
    ∙ ap₂ (λ (s y : ℕ). s + y * 2 ^ (32 * length l)) (low_same (l ++ x ∷ []) l (length l) (λ k less. get_or-append l (x ∷ []) 0 k less))
    (get_or-append_seam l x [] 0)

-- The highest limb first.
total_turned : (x : ℕ) (xs : List ℕ) → total (reverse (x ∷ xs)) ≡ total (reverse xs) + x * 2 ^ (32 * length xs)
total_turned x xs =
    ap total (reverse-cons x xs) ∙ total_push (reverse xs) x ∙ ap (λ (n : ℕ). total (reverse xs) + x * 2 ^ (32 * n)) (length-reverse xs)

turned_lt : (xs : List ℕ) → Within xs → total (reverse xs) < 2 ^ (32 * length xs)
unfolding total
turned_lt xs h =
    subst (λ (n : ℕ). low (reverse xs) (length (reverse xs)) < 2 ^ (32 * n)) (length-reverse xs)
    (low_lt (reverse xs) (length (reverse xs)) (within_reverse xs h))

-- The lower number has the lower limb above, whatever is below.
less : (x y : ℕ) (xs ys : List ℕ) → Within xs → length xs ≡ length ys → x < y → total (reverse (x ∷ xs)) < total (reverse (y ∷ ys))
less x y xs ys h e here =
    let w = 2 ^ (32 * length xs) in
    let next : suc x * w ≤ y * w = mul-le-mul_right w here in
    let same : y * 2 ^ (32 * length ys) ≡ y * w = ap (λ (n : ℕ). y * 2 ^ (32 * n)) (sym e) in
    omega (arith, total_turned x xs, total_turned y ys, turned_lt xs h, suc-mul x w, same)

-- The same limb above keeps the order of what is below.
below : (r : Ordering) (s t w : ℕ) → Stands r s t → Stands r (s + w) (t + w)
below Less s t w h = omega (arith, h)
below Equal s t w h = ap (λ (x : ℕ). x + w) h
below Greater s t w h = omega (arith, h)

from_above : (p q : List ℕ) → length p ≡ length q → Within p → Within q → Stands (slice_cmp nat_cmp p q) (total (reverse p)) (total (reverse q))
from_above [] [] e h g = refl
from_above [] (y ∷ ys) e h g = absurd (omega (arith, e))
from_above (x ∷ xs) [] e h g = absurd (omega (arith, e))
from_above (x ∷ xs) (y ∷ ys) e h g =
    by (nat_cmp x y) (ranked x y (nat_cmp x y) refl) (from_above xs ys long (within_rest x xs h) (within_rest y ys g))
  where
    long : length xs ≡ length ys
    long = omega (arith, e)

    by : (r : Ordering) → MatchOrdering r (x < y) (x ≡ y) (y < x) → Stands (slice_cmp nat_cmp xs ys) (total (reverse xs)) (total (reverse ys)) →
        Stands (ordering_then r (slice_cmp nat_cmp xs ys)) (total (reverse (x ∷ xs))) (total (reverse (y ∷ ys)))
    by Less here rest = less x y xs ys (within_rest x xs h) long here
    by Equal here rest =
        subst₂ (λ (s t : ℕ). Stands (slice_cmp nat_cmp xs ys) s t) (sym (total_turned x xs))
        (ap₂ (λ (z n : ℕ). total (reverse ys) + z * 2 ^ (32 * n)) here long ∙ sym (total_turned y ys))
        (below (slice_cmp nat_cmp xs ys) (total (reverse xs)) (total (reverse ys)) (x * 2 ^ (32 * length xs)) rest)
    by Greater here rest = less y x ys xs (within_rest y ys g) (sym long) here

-- The library's order of the limbs, from the highest on, is the order of the numbers.
pub decided : (a b : List ℕ) → ((k : ℕ) → get_or a k 0 < 2 ^ 32) → ((k : ℕ) → get_or b k 0 < 2 ^ 32) → length a ≡ length b → (o : Ordering) →
    o ≡ slice_cmp nat_cmp (reverse a) (reverse b) → Stands o (total a) (total b)
decided a b firsts seconds e o is =
    let here = from_above (reverse a) (reverse b) (length-reverse a ∙ e ∙ sym (length-reverse b))
    (within_reverse a (λ k _. firsts k)) (within_reverse b (λ k _. seconds k)) in
    subst (λ (r : Ordering). Stands r (total a) (total b)) (sym is)
    (subst₂ (λ (l m : List ℕ). Stands (slice_cmp nat_cmp (reverse a) (reverse b)) (total l) (total m)) (reverse-reverse a) (reverse-reverse b) here)
