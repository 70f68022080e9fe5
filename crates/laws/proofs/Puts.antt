-- How elements put into a list one after the other, or one before the other, are put at once. Assumes nothing.
use mathlib.Core.Path.{◌≡◌, refl, sym, ap, ◌∙◌, subst}
use mathlib.Core.List.{List, [], ◌∷◌, ◌++◌, append_assoc, append-nil}
use Prim.Native.Nat.{ℕ, suc, ◌+◌, ◌-◌, ◌≤◌, ◌<◌}
use native.Mathlib.Nat.{add_assoc, add-zero, zero-add}
use native.Mathlib.Numerals.{add-one}
use native.Mathlib.Omega.{arith}
use lib.ListN.{length, get_or, set, take, drop, length-append, length-drop, length-take, take-append-drop, drop_of_length-le, get_or-append}
use lib.Seq.{append_snoc, get_or_at, get_or-take, length-slice, length-take-le, set_at, take_at, drop_at, drop-drop, set_split, slice, slice-cons, slice_empty, take_all, take-append-le, take-take}
use borrow.Rule.Slice.PartMut.{put_mid}
use Rattle.laws.specs.Puts.{placed, Puts}

module _ {A : Type 0} (out : List A) (at : ℕ) (t : List A) (room : at + length t ≤ length out) where
  head : length (take at out) ≡ at
  head = length-take-le at out (omega arith)

  through : length (take at out ++ t) ≡ at + length t
  through = length-append (take at out) t ∙ ap (λ (n : ℕ). n + length t) head

  parted : placed out at t ≡ (take at out ++ t) ++ drop (at + length t) out
  unfolding placed
  parted = sym (append_assoc (take at out) t (drop (at + length t) out))

  length-placed : length (placed out at t) ≡ length out
  length-placed = rw parted (simp (length-append, length-drop) (omega (arith, head)))

  take-placed : take (at + length t) (placed out at t) ≡ take at out ++ t
  take-placed = rw parted (take_at (take at out ++ t) _ _ through)

  drop-placed : drop (at + length t) (placed out at t) ≡ drop (at + length t) out
  drop-placed = rw parted (drop_at (take at out ++ t) _ _ through)

  -- What is put behind what was put.
  placed_behind : (u : List A) → placed (placed out at t) (at + length t) u ≡ placed out at (t ++ u)
  unfolding placed
  placed_behind u =
      rw (take-placed, ← drop-drop (length u) (at + length t) (placed out at t), drop-placed, drop-drop)
      (simp (append_assoc, length-append, add_assoc))

-- What is put before what was put.
placed_before : {A : Type 0} (out : List A) (at : ℕ) (u t : List A) → at + length u ≤ length out →
    placed (placed out (at + length u) t) at u ≡ placed out at (u ++ t)
unfolding placed
placed_before {A} out at u t room =
    let head : length (take (at + length u) out) ≡ at + length u = length-take-le (at + length u) out room in
    rw (take-append-le at (take (at + length u) out) _ (omega arith), take-take at (at + length u) out (omega arith), drop_at (take (at + length u) out) _ _ head)
    (simp (append_assoc, length-append, add_assoc))

-- Nothing put.
pub none : {A : Type 0} (out : List A) (at : ℕ) → at ≤ length out → Puts [] out at out at
unfolding placed
none out at h = record { room = omega arith; behind = omega arith; elements = rw (add-zero, take-append-drop) }

-- One element put.
pub one : {A : Type 0} (out : List A) (at : ℕ) (v : A) → at < length out → Puts (v ∷ []) out at (set out at v) (at + 1)
unfolding placed
one out at v h = record { room = omega arith; behind = refl; elements = rw add-one (set_split out at v h) }

-- A list keeps its length.
pub kept : {A : Type 0} {t out last : List A} {at next : ℕ} → Puts t out at last next → length last ≡ length out
kept {A} {t} {out} {last} {at} p = rw p.elements (length-placed out at t p.room)

-- One behind the other.
pub then : {A : Type 0} {t u out mid last : List A} {at m next : ℕ} → Puts t out at mid m → Puts u mid m last next →
    Puts (t ++ u) out at last next
then {A} {t} {u} {out} {mid} {last} {at} p q =
    record {
      room = simp length-append (omega (arith, kept p, q.room, p.behind));
      behind = simp length-append (omega (arith, q.behind, p.behind));
      elements = rw (q.elements, p.elements, p.behind) (placed_behind out at t p.room u);
    }

-- One before the other.
pub before : {A : Type 0} {t u out mid last : List A} {at m k next : ℕ} → Puts t out m mid next → Puts u mid at last k → at + length u ≡ m →
    Puts (u ++ t) out at last next
before {A} {t} {u} {out} {mid} {last} {at} p q meet =
    record {
      room = simp length-append (omega (arith, p.room));
      behind = simp length-append (omega (arith, p.behind));
      elements = rw (q.elements, p.elements, ← meet) (placed_before out at u t (omega (arith, kept p, q.room)));
    }

-- What stands before the place counts as put.
pub standing : {A : Type 0} {t out last : List A} {at next : ℕ} → Puts t out at last next → Puts (take at out ++ t) out 0 last next
unfolding placed
standing {A} {t} {out} {last} {at} p =
    let long = through out at t p.room in
    record {
      room = omega (arith, long, p.room);
      behind = omega (arith, long, p.behind);
      elements = rw (p.elements, zero-add, long, append_assoc);
    }

-- What was put from the start of a list: it stands there, and what stood behind it still does.
pub from_start : {A : Type 0} {t out last : List A} {next : ℕ} → Puts t out 0 last next → last ≡ t ++ drop (length t) out
unfolding placed
from_start p = rw (p.elements, zero-add)

-- What was put from the start of the part that begins at `at` was put there.
pub part : {A : Type 0} {t out last : List A} {next : ℕ} (at : ℕ) → at ≤ length out → Puts t (take (length out - at) (drop at out)) 0 last next →
    Puts t out at (put_mid at (length out - at) out last) (at + next)
unfolding placed
part {A} {t} {out} {last} {next} at within p =
    let long : length (drop at out) ≤ length out - at = omega (arith, length-drop at out) in
    let q : Puts t (drop at out) 0 last next = rw (take_all (length out - at) (drop at out) long) at p in
    record {
      room = omega (arith, q.room);
      behind = omega (arith, q.behind);
      elements = rw (from_start q, drop-drop (length t), drop_of_length-le (drop at out) long, append-nil);
    }

-- How much room the part has.
pub part_room : {A : Type 0} (out : List A) (at n : ℕ) → at + n ≤ length out → n ≤ length (take (length out - at) (drop at out))
part_room out at n h = simp (length-take, length-drop) (omega arith)

module _ {A : Type 0} (t : List A) (y : A) {out last : List A} {next : ℕ} (n : ℕ) (long : length t ≡ n) (p : Puts (t ++ (y ∷ [])) out 0 last next) where
  ends : last ≡ t ++ (y ∷ drop (length (t ++ (y ∷ []))) out)
  ends = from_start p ∙ append_snoc t y _

  -- The last of what was put is read there.
  pub last_is : (d : A) → get_or last n d ≡ y
  last_is d = rw ends (get_or_at t y _ d n long)

  -- Another in its stead is put instead.
  pub last_changed : (z : A) → Puts (t ++ (z ∷ [])) out 0 (set last n z) next
  unfolding placed
  last_changed z =
      let same : length (t ++ (z ∷ [])) ≡ length (t ++ (y ∷ [])) = simp length-append in
      record {
        room = omega (arith, same, p.room);
        behind = omega (arith, same, p.behind);
        elements = rw (ends, set_at t y _ z n long, zero-add, same) (sym (append_snoc t z _));
      }

-- What stands before the place is as it was.
pub unchanged : {A : Type 0} {t out last : List A} {at next : ℕ} (i : ℕ) (d : A) → i < at → Puts t out at last next → get_or last i d ≡ get_or out i d
unfolding placed
unchanged {A} {t} {out} {last} {at} i d less p =
    let long : i < length (take at out) = omega (arith, length-take-le at out (omega (arith, p.room))) in
    rw p.elements (get_or-append (take at out) _ d i long ∙ get_or-take at out i d less)

-- Elements moved further up, the last first: before the first move, and one more.
module _ {A : Type 0} (out : List A) (end by : ℕ) (room : end + by ≤ length out) where
  pub none_moved : Puts (slice end end out) out (end + by) out (end + by)
  none_moved = rw (slice_empty end out) (none out (end + by) room)

  pub one_moved : {last : List A} {next : ℕ} (i : ℕ) (d : A) → 0 < i → i ≤ end → Puts (slice i end out) out (i + by) last next →
      Puts (slice (i - 1) end out) out (i - 1 + by) (set last (i - 1 + by) (get_or last (i - 1) d)) next
  one_moved {last} i d some within p =
      let is : suc (i - 1) ≡ i = omega arith in
      rw (slice-cons (i - 1) end out d (omega arith) (omega arith), is, unchanged (i - 1) d (omega arith) p)
      (before p (one last (i - 1 + by) (get_or out (i - 1) d) (omega (arith, kept p))) (omega arith))

-- Behind those that were moved.
pub moved_end : {A : Type 0} {out last : List A} {next : ℕ} (from end by : ℕ) → from ≤ end → end ≤ length out →
    Puts (slice from end out) out (from + by) last next → next ≡ end + by
moved_end {A} {out} from end by ordered within p = omega (arith, p.behind, length-slice from end out within)

-- Elements put over others that were put from the start, and at least as many, are put over what stood there before.
pub over : {A : Type 0} {s t out mid last : List A} {m next : ℕ} → Puts s out 0 mid m → Puts t mid 0 last next → length s ≤ length t →
    Puts t out 0 last next
unfolding placed
over {A} {s} {t} {out} {mid} {last} p q more =
    let behind : drop (length s) mid ≡ drop (length s) out =
    ap (drop (length s)) p.elements
    ∙ subst (λ (n : ℕ). drop n (placed out 0 s) ≡ drop n out) (zero-add (length s)) (drop-placed out 0 s p.room) in
    let far : length s + (length t - length s) ≡ length t = omega arith in
    let same : drop (length t) mid ≡ drop (length t) out =
    rw (← far, ← drop-drop (length t - length s) (length s) mid, ← drop-drop (length t - length s) (length s) out, behind) in
    record { room = omega (arith, kept p, q.room); behind = q.behind; elements = rw (q.elements, zero-add, same) }
