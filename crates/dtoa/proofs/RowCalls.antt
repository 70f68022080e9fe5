-- What crates above the printer rely on, from the contract of the call for a row alone: its text is that of calls one by one, the bytes
-- behind it stay, each item reads back, and no two rows share their bytes. Assumes nothing.
use mathlib.Core.Bool.{not}
use mathlib.Core.List.{List, [], ◌∷◌, map}
use mathlib.Core.Path.{◌≡◌, refl, sym, ap, ap₂, ◌∙◌}
use Prim.Native.Nat.{ℕ, ◌-◌, ◌*◌, ◌^◌, ◌≤◌, ◌<◌}
use native.Mathlib.Omega.{arith}
use lib.Dec.{T}
use lib.ListN.{length, get_or, take, drop}
use Rattle.rules.specs.Width.{Width}
use Rattle.rules.specs.Pattern.{special}
use Rattle.rules.specs.Text.{text}
use Rattle.rules.specs.Reading.{ReadsAs}
use Rattle.rules.specs.Answer.{every}
use Rattle.rules.specs.Row.{spaced, row, row_limit, row_room, cut}
use Rattle.theorems.proofs.Printable.{Printable}
use Rattle.theorems.proofs.Results.{is_printed, put_length, text_put, rest_kept}
use Rattle.theorems.proofs.Rows.{FinitePatterns, few_patterns, row-length, row_item, row_restored, same_row}
use Rattle.dtoa.specs.Meets.{Meets}
use Rattle.dtoa.specs.MeetsRow.{MeetsRow}
use Rattle.std.specs.Prelude.{Ok}
use Rattle.dtoa.proofs.Calls.{text_definition}
use Rattle.dtoa.proofs.RowOutcomes.{right}

-- The texts that calls for single patterns left, one for each pattern.
pub data OneByOne (w : Width) : List ℕ → List (List ℕ) → Type 0 where
  none : OneByOne w [] []
  more : {v : ℕ} {vs : List ℕ} {ts : List (List ℕ)} (before last : List ℕ) (n : ℕ) → Meets every w v before (Ok n) last →
      OneByOne w vs ts → OneByOne w (v ∷ vs) (take n last ∷ ts)

texts : {w : Width} {vs : List ℕ} {ts : List (List ℕ)} → OneByOne w vs ts → ts ≡ map (text w) vs
texts none = refl
texts {w} (more {v} before last n m ms) = ap₂ (λ (t : List ℕ) (ts : List (List ℕ)). t ∷ ts) (text_definition every w v before last n m) (texts ms)

-- A call that printed n bytes.
module _ (w : Width) (vs before last : List ℕ) (n : ℕ) (m : MeetsRow w vs before (Ok n) last) where
  -- The text definition: the bytes up to the length are the patterns' row.
  pub row_definition : take n last ≡ row w vs
  row_definition = text_put (right w vs before m)

  -- They are what calls for single patterns leave, a space between two.
  pub as_one_by_one : {ts : List (List ℕ)} → OneByOne w vs ts → take n last ≡ spaced ts
  unfolding row
  as_one_by_one ms = row_definition ∙ ap spaced (sym (texts ms))

  -- The bytes from the length on are as before.
  pub row_bytes_behind : drop n last ≡ drop n before
  row_bytes_behind = rest_kept (right w vs before m)

  module _ {q : ℕ} (p : Printable w q) where
    -- The length bound, by the patterns of the row ..
    pub row_length_bound : n ≤ row_room * length vs - 1
    row_length_bound = omega (arith, put_length (right w vs before m), row-length w q p vs)

    -- .. and by the most that a row may have.
    pub row_length_most : n ≤ row_room * row_limit
    row_length_most = omega (arith, row_length_bound, few_patterns (length vs) (length before) (is_printed (right w vs before m)))

    -- Cut at its spaces, it gives at each pattern's place the text that a call for the pattern leaves.
    pub item_by_itself : (i : ℕ) → i < length vs → (b l : List ℕ) (k : ℕ) → Meets every w (get_or vs i 0) b (Ok k) l →
        get_or (cut (take n last)) i [] ≡ take k l
    item_by_itself i h b l k single = rw row_definition (row_item w q p vs i h ∙ sym (text_definition every w (get_or vs i 0) b l k single))

    -- And this reads as the pattern, if that is finite.
    pub item_round_trip : (i : ℕ) → i < length vs → get_or vs i 0 < 2 ^ w.bits → T (not (special w (get_or vs i 0))) →
        ReadsAs w (get_or (cut (take n last)) i []) (get_or vs i 0)
    item_round_trip i h bound finite = rw row_definition (row_restored w q p vs i h bound finite)

-- Two calls on rows of finite patterns that leave the same bytes up to their lengths were given the same row.
pub same-bytes-same-row : (w : Width) {q : ℕ} → Printable w q → (us vs before earlier last later : List ℕ) (n k : ℕ) →
    MeetsRow w us before (Ok n) last → MeetsRow w vs earlier (Ok k) later → FinitePatterns w us → FinitePatterns w vs →
    take n last ≡ take k later → us ≡ vs
same-bytes-same-row w {q} p us vs before earlier last later n k a b fu fv same =
    same_row w q p us vs fu fv (sym (row_definition w us before last n a) ∙ same ∙ row_definition w vs earlier later k b)
