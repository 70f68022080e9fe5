-- What is still to be put into a list, for a loop that puts one part behind the other. Assumes nothing.
use mathlib.Core.Path.{◌≡◌, refl, ◌∙◌}
use mathlib.Core.List.{List, [], ◌++◌}
use Prim.Native.Nat.{ℕ, ◌≤◌}
use lib.ListN.{length}
use Rattle.laws.specs.Puts.{Puts}
use Rattle.laws.proofs.Puts.{none, kept, then}

-- Whoever puts u into `out` at n has put t into `first` at `at`.
pub record Rest {A : Type 0} (t first : List A) (at : ℕ) (u out : List A) (n : ℕ) : Type 0 where
  pub same : length out ≡ length first
  pub completes : (last : List A) (next : ℕ) → Puts u out n last next → Puts t first at last next

-- At first all of it.
pub begin : {A : Type 0} (t out : List A) (at : ℕ) → Rest t out at t out at
begin t out at = record { same = refl; completes = λ last next p. p }

-- Behind a part that was put, what follows it.
pub step : {A : Type 0} {t first s u v out mid : List A} {at n m : ℕ} → Rest t first at s out n → s ≡ u ++ v → Puts u out n mid m → Rest t first at v mid m
step r parts p = record { same = kept p ∙ r.same; completes = λ last next q. r.completes last next (rw parts (then p q)) }

-- Where nothing is left, all was put.
pub finished : {A : Type 0} {t first u out : List A} {at n : ℕ} → Rest t first at u out n → u ≡ [] → n ≤ length out → Puts t first at out n
finished {A} {t} {first} {u} {out} {at} {n} r empty within = r.completes out n (rw empty (none out n within))
