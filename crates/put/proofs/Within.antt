-- What the library's ways to write a part of a list put there. Assumes nothing.
use mathlib.Core.Path.{◌≡◌, refl, ap, ◌∙◌}
use mathlib.Core.List.{List, ◌++◌}
use Prim.Native.Nat.{ℕ, ◌+◌, ◌≤◌}
use native.Mathlib.Omega.{arith}
use lib.ListN.{length, take, drop, replicate, length-replicate, length-take, length-drop}
use lib.Seq.{drop-drop}
use borrow.Rule.Slice.PartMut.{put_mid}
use Rattle.laws.specs.Puts.{placed, Puts}

-- A list of n elements in the stead of those from a place on.
within : {A : Type 0} (t out : List A) (at n : ℕ) → length t ≡ n → at + n ≤ length out → Puts t out at (take at out ++ (t ++ drop (at + n) out)) (at + n)
unfolding placed
within t out at n long room = record { room = omega (arith, long); behind = omega (arith, long); elements = rw long refl }

-- A part of k elements that a list of its length replaces.
pub replaced : {A : Type 0} (t : List A) {out last : List A} {at k next : ℕ} → k ≡ length t → next ≡ at + length t → at + length t ≤ length out →
    last ≡ t → Puts t out at (put_mid at k out last) next
replaced t {out} {last} {at} wide behind room is = rw (is, wide, behind, drop-drop (length t) at out) (within t out at (length t) refl room)

-- A part of k elements that is filled with one.
pub filled : {A : Type 0} (y : A) (n : ℕ) {out last : List A} {at k next : ℕ} → k ≡ n → next ≡ at + n → at + n ≤ length out →
    last ≡ replicate (length (take k (drop at out))) y → Puts (replicate n y) out at (put_mid at k out last) next
filled y n {out} {last} {at} wide behind room is =
    let long : length (replicate n y) ≡ n = length-replicate n y in
    let whole : length (take n (drop at out)) ≡ n = simp (length-take, length-drop) (omega arith) in
    replaced (replicate n y) (omega (arith, wide, long)) (omega (arith, behind, long)) (omega (arith, room, long)) (is ∙ ap (λ (m : ℕ). replicate m y) (rw wide whole))
