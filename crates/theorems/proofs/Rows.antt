-- A row cut at its spaces gives its patterns' texts; so each finite one reads back, and two rows with the same bytes are one. Assumes nothing.
use mathlib.Core.Bool.{Bool, true, false, not, ◌||◌}
use mathlib.Core.List.{List, [], ◌∷◌, ◌++◌, map, append-nil}
use mathlib.Core.Path.{◌≡◌, refl, sym, ap, ap₂, ◌∙◌}
use Prim.Native.Nat.{ℕ, zero, suc, ◌+◌, ◌-◌, ◌*◌, ◌^◌, ◌≤◌, ◌<◌}
use native.Mathlib.Nat.{not-suc-le-zero, le_of_suc-le-suc}
use native.Mathlib.Numerals.{add-one}
use native.Mathlib.Omega.{arith}
use borrow.Author.Tests.{ne_eqb}
use lib.Dec.{T, eqb, ltb, ltb→lt, nltb→le}
use lib.ListN.{length, get_or, drop, length-append, drop_of_length-le}
use lib.Seq.{drop-cons}
use Rattle.laws.proofs.Branches.{either, and_left, and_right}
use Rattle.rules.specs.Bytes.{space}
use Rattle.rules.specs.Width.{Width}
use Rattle.rules.specs.Pattern.{special}
use Rattle.rules.specs.Text.{text}
use Rattle.rules.specs.Reading.{ReadsAs}
use Rattle.rules.specs.Row.{spaced, row, row_limit, row_room, row_number, row_after, onto, pieces, cut}
use Rattle.theorems.proofs.Printable.{Printable}
use Rattle.theorems.proofs.Results.{left_length}
use Rattle.theorems.proofs.RoundTrip.{restored, distinct}
use Rattle.theorems.proofs.TextLength.{text-length}
use Rattle.theorems.proofs.Visible.{each, both, loosely, visible, text_visible}

-- ---- cutting

no_space : (b : ℕ) → T (visible b) → eqb b space ≡ false
unfolding visible
no_space b h = ne_eqb b space (λ e. omega (arith, ltb→lt space b (and_left (ltb space b) _ h)))

-- A text without a space is one piece.
one_piece : (t : List ℕ) → T (each visible t) → pieces t ≡ t ∷ []
unfolding each pieces onto
one_piece [] h = refl
one_piece (b ∷ t) h = rw (no_space b (and_left (visible b) _ h), pieces, one_piece t (and_right (visible b) _ h))

-- Before a space it is the first piece.
first_piece : (t rest : List ℕ) → T (each visible t) → pieces (t ++ (space ∷ rest)) ≡ t ∷ pieces rest
unfolding each pieces onto
first_piece [] rest h = refl
first_piece (b ∷ t) rest h = rw (no_space b (and_left (visible b) _ h), pieces, first_piece t rest (and_right (visible b) _ h))

-- A row that has a byte is cut into its pieces.
some_pieces : (t : List ℕ) → 0 < length t → cut t ≡ pieces t
unfolding cut
some_pieces [] h = absurd (omega arith)
some_pieces (b ∷ t) h = refl

-- What is made of each element stands where the element stood.
item : {A B : Type 0} (f : A → B) (l : List A) (i : ℕ) (d : A) (e : B) → i < length l → get_or (map f l) i e ≡ f (get_or l i d)
item f [] i d e h = absurd (not-suc-le-zero h)
item f (x ∷ l) zero d e h = refl
item f (x ∷ l) (suc i) d e h = item f l i d e (le_of_suc-le-suc h)

-- Patterns of a width, all of them finite.
unfoldable pub FinitePatterns : Width → List ℕ → Type 0
FinitePatterns w [] = Unit
FinitePatterns w (v ∷ vs) = (v < 2 ^ w.bits) × T (not (special w v)) × FinitePatterns w vs

-- The bytes that a row may have.
unfoldable pub visible_or_space : ℕ → Bool
visible_or_space b = visible b || eqb b space

visible_too : (b : ℕ) → T (visible b) → T (visible_or_space b)
unfolding visible_or_space
visible_too b h = or_left (visible b) (eqb b space) h
  where
    or_left : (x y : Bool) → T x → T (x || y)
    or_left true y t = tt
    or_left false y t = absurd t

module _ (w : Width) where
  -- The pieces of a row that has a pattern.
  row-pieces : (v : ℕ) (vs : List ℕ) → pieces (row w (v ∷ vs)) ≡ map (text w) (v ∷ vs)
  unfolding row spaced
  row-pieces v [] = one_piece (text w v) (text_visible w v)
  row-pieces v (u ∷ vs) =
      first_piece (text w v) (spaced (text w u ∷ map (text w) vs)) (text_visible w v)
      ∙ ap (λ (ts : List (List ℕ)). text w v ∷ ts) (row-pieces u vs)

  -- A row has visible characters of ASCII and spaces, and no other bytes.
  pub row_visible : (vs : List ℕ) → T (each visible_or_space (row w vs))
  unfolding each visible visible_or_space row spaced
  row_visible [] = tt
  row_visible (v ∷ []) = loosely visible visible_or_space visible_too (text w v) (text_visible w v)
  row_visible (v ∷ u ∷ vs) =
      both visible_or_space (text w v) _ (loosely visible visible_or_space visible_too (text w v) (text_visible w v)) (row_visible (u ∷ vs))

  -- ---- what a row begins with

  module _ (vs : List ℕ) (i : ℕ) where
    -- No pattern is left.
    pub row_none : length vs ≤ i → row w (drop i vs) ≡ []
    unfolding row spaced
    row_none h = ap (row w) (drop_of_length-le vs h)

    -- One is left.
    pub row_last : i + 1 ≡ length vs → row w (drop i vs) ≡ text w (get_or vs i 0) ++ row w (drop (i + 1) vs)
    unfolding row spaced
    row_last e = rw (add-one, drop-cons vs i 0 (omega arith), drop_of_length-le vs {i = suc i} (omega arith)) (sym (append-nil (text w (get_or vs i 0))))

    -- More are left.
    pub row_more : i + 1 < length vs → row w (drop i vs) ≡ text w (get_or vs i 0) ++ (space ∷ row w (drop (i + 1) vs))
    unfolding row spaced
    row_more h = rw (add-one, drop-cons vs i 0 (omega arith), drop-cons vs (suc i) 0 (omega arith))

-- Where a row is printed it has few enough patterns, and there was room for it.
printed_row : (count room : ℕ) → row_number count room ≡ 0 → (count ≤ row_limit) × (row_room * count ≤ room)
unfolding row_number
printed_row count room =
    either (λ (n : ℕ). n ≡ 0 → (count ≤ row_limit) × (row_room * count ≤ room)) (ltb row_limit count) (λ t e. absurd (omega arith))
    (λ t.
    either (λ (n : ℕ). n ≡ 0 → (count ≤ row_limit) × (row_room * count ≤ room)) (ltb room (row_room * count)) (λ u e. absurd (omega arith))
    (λ u e. (nltb→le row_limit count t, nltb→le room (row_room * count) u)))

pub few_patterns : (count room : ℕ) → row_number count room ≡ 0 → count ≤ row_limit
few_patterns count room e = (printed_row count room e).0

module _ (w : Width) (q : ℕ) (p : Printable w q) where
  -- How long a row is: the space behind the last text is not put.
  pub row-length : (vs : List ℕ) → length (row w vs) ≤ row_room * length vs - 1
  unfolding row spaced
  row-length [] = omega arith
  row-length (v ∷ []) = omega (arith, (text-length w q p v).most)
  row-length (v ∷ u ∷ vs) = simp length-append (omega (arith, (text-length w q p v).most, row-length (u ∷ vs)))

  -- A row that has a pattern has a byte.
  row_some : (v : ℕ) (vs : List ℕ) → 0 < length (row w (v ∷ vs))
  unfolding row spaced
  row_some v [] = omega (arith, (text-length w q p v).least)
  row_some v (u ∷ vs) = simp length-append (omega (arith, (text-length w q p v).least))

  -- The call for a row leaves a buffer as long as it was.
  pub row-after-length : (vs buf : List ℕ) → length (row_after w vs buf) ≡ length buf
  unfolding row_after
  row-after-length vs buf =
      left_length (row_number (length vs) (length buf)) (row w vs) buf (λ e. omega (arith, (printed_row (length vs) (length buf) e).1, row-length vs))

  -- Cut at its spaces, a row gives the texts of its patterns.
  pub cut-row : (vs : List ℕ) → cut (row w vs) ≡ map (text w) vs
  unfolding cut row spaced
  cut-row [] = refl
  cut-row (v ∷ vs) = some_pieces (row w (v ∷ vs)) (row_some v vs) ∙ row-pieces w v vs

  -- One by one: the piece where a pattern stood is its text.
  pub row_item : (vs : List ℕ) (i : ℕ) → i < length vs → get_or (cut (row w vs)) i [] ≡ text w (get_or vs i 0)
  row_item vs i h = rw (cut-row vs) (item (text w) vs i 0 [] h)

  -- It reads as the pattern, if that is finite.
  pub row_restored : (vs : List ℕ) (i : ℕ) → i < length vs → get_or vs i 0 < 2 ^ w.bits → T (not (special w (get_or vs i 0))) →
      ReadsAs w (get_or (cut (row w vs)) i []) (get_or vs i 0)
  row_restored vs i h bound finite = rw (row_item vs i h) (restored w q p (get_or vs i 0) finite bound)

  -- Finite patterns with the same texts are the same.
  same_texts : (us vs : List ℕ) → FinitePatterns w us → FinitePatterns w vs → map (text w) us ≡ map (text w) vs → us ≡ vs
  unfolding FinitePatterns
  same_texts [] [] a b e = refl
  same_texts [] (v ∷ vs) a b e = absurd (let z : ◌≡◌ {A = ℕ} 0 1 = cc in omega arith)
  same_texts (u ∷ us) [] a b e = absurd (let z : ◌≡◌ {A = ℕ} 0 1 = cc in omega arith)
  same_texts (u ∷ us) (v ∷ vs) a b e =
      let here : text w u ≡ text w v = cc in
      let there : map (text w) us ≡ map (text w) vs = cc in
      ap₂ (λ (x : ℕ) (l : List ℕ). x ∷ l) (distinct w q p u v a.0 b.0 a.1 b.1 here) (same_texts us vs a.2 b.2 there)

  -- Two rows of finite patterns with the same bytes are the same row.
  pub same_row : (us vs : List ℕ) → FinitePatterns w us → FinitePatterns w vs → row w us ≡ row w vs → us ≡ vs
  same_row us vs a b e = same_texts us vs a b (sym (cut-row us) ∙ ap cut e ∙ cut-row vs)
