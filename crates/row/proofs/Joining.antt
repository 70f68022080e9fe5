-- Texts put one behind the other, a space between two, are their row. Assumes nothing.
use mathlib.Core.List.{List, [], ◌∷◌, ◌++◌, map}
use mathlib.Core.Path.{◌≡◌, refl, sym, ap, ◌∙◌}
use Prim.Native.Nat.{ℕ, ◌+◌, ◌-◌, ◌*◌, ◌≤◌, ◌<◌}
use native.Mathlib.Omega.{arith}
use lib.ListN.{length, get_or, drop, length-append, length-map, get_or-append}
use lib.Seq.{get_or_at}
use Rattle.std.proofs.lemmas.List.{get_or-map}
use Rattle.laws.specs.Puts.{Puts}
use Rattle.laws.proofs.Puts.{kept}
use Rattle.laws.proofs.Rest.{Rest, begin, step, finished}
use Rattle.rules.specs.Bytes.{space}
use Rattle.rules.specs.Width.{Width}
use Rattle.rules.specs.Text.{text}
use Rattle.rules.specs.Row.{row, row_room}
use Rattle.theorems.proofs.Printable.{Printable}
use Rattle.theorems.proofs.TextLength.{text-length}
use Rattle.theorems.proofs.Rows.{row_none, row_last, row_more}

-- Numbers of a list that ends with l: how many they are, and those before the last.
module _ {X : Type 0} (f : X → ℕ) (xs front : List X) (l : X) (is : xs ≡ front ++ (l ∷ [])) where
  pub count : length (map f xs) ≡ length front + 1
  count = rw (is, length-map) (length-append front (l ∷ []))

  pub before_last : (i : ℕ) (x : X) → x ≡ get_or front i x → i < length front → get_or (map f xs) i 0 ≡ f x
  before_last i x at less =
      get_or-map f xs i x 0 (rw is (simp length-append (omega arith)))
      ∙ ap f (rw is (get_or-append front (l ∷ []) x i less) ∙ sym at)

  pub last_one : (i : ℕ) → length front ≡ i → get_or (map f xs) i 0 ≡ f l
  last_one i at = get_or-map f xs i l 0 (rw is (simp length-append (omega arith))) ∙ ap f (rw is (get_or_at front l [] l i at))

-- Before pattern i: what is left is the row from there on, and there is room for it.
pub record Before (w : Width) (vs first : List ℕ) (i : ℕ) (out : List ℕ) (at : ℕ) : Type 0 where
  pub within : i ≤ length vs
  pub room : at + row_room * (length vs - i) ≤ length out
  pub left : Rest (row w vs) first 0 (row w (drop i vs)) out at

module _ {w : Width} {vs first : List ℕ} where
  -- The first pattern.
  pub start : row_room * length vs ≤ length first → Before w vs first 0 first 0
  start h = record { within = omega arith; room = omega arith; left = begin (row w vs) first 0 }

  module _ {i at : ℕ} {out : List ℕ} (b : Before w vs first i out at) where
    -- Behind the last pattern.
    pub end : length vs ≤ i → Puts (row w vs) first 0 out at
    end h = finished b.left (row_none w vs i h) (omega (arith, b.room))

    module _ {q : ℕ} (p : Printable w q) {mid : List ℕ} {m : ℕ} (t : Puts (text w (get_or vs i 0)) out at mid m) where
      -- Each text leaves room for a space behind it, the last one too.
      pub space-room : i < length vs → m < length mid
      space-room h = omega (arith, b.room, t.behind, kept t, (text-length w q p (get_or vs i 0)).most)

      -- The next pattern, behind a text and a space.
      pub next : i + 1 < length vs → {last : List ℕ} {n : ℕ} → Puts (space ∷ []) mid m last n → Before w vs first (i + 1) last n
      next h s =
          record {
            within = omega arith;
            room = omega (arith, b.room, t.behind, kept t, s.behind, kept s, (text-length w q p (get_or vs i 0)).most);
            left = step (step b.left (row_more w vs i h) t) refl s;
          }

      -- Behind the last text.
      pub last : i + 1 ≡ length vs → Before w vs first (i + 1) mid m
      last e =
          record {
            within = omega arith;
            room = omega (arith, b.room, t.behind, kept t, (text-length w q p (get_or vs i 0)).most);
            left = step b.left (row_last w vs i e) t;
          }
