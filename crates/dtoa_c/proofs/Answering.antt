-- An outcome's two numbers, from the contract of the call that answered it. Assumes nothing.
use mathlib.Core.List.{List}
use mathlib.Core.Path.{◌≡◌, ap, ◌∙◌}
use Prim.Native.Nat.{ℕ, ◌*◌, ◌≤◌}
use native.Mathlib.Omega.{arith}
use Rattle.rules.specs.Width.{Width}
use Rattle.rules.specs.Answer.{Entry, Answer}
use Rattle.rules.specs.Row.{row_limit, row_room}
use Rattle.theorems.proofs.Printable.{Printable}
use Rattle.dtoa.specs.Meets.{Meets, told}
use Rattle.dtoa.specs.MeetsRow.{MeetsRow, row_told}
use Rattle.std.specs.Prelude.{Result, Ok, Err}
use Rattle.dtoa.specs.declared.Refusal.{Refusal}
use Rattle.dtoa.specs.declared.Refusal.TheVariants.{TooShort, NotFinite}
use Rattle.dtoa.specs.declared.RowRefusal.{RowRefusal}
use Rattle.dtoa.specs.declared.RowRefusal.TheVariants as many
use Rattle.dtoa.proofs.Calls.{length_bound}
use Rattle.dtoa.proofs.RowCalls.{row_length_most}
use Rattle.dtoa_c.specs.Exported.{Exported, ExportedRow}

module _ (c : Entry) (w : Width) (v : ℕ) (before last : List ℕ) where
  -- No length exceeds 25, so a u32 holds it.
  pub length_held : {q : ℕ} → Printable w q → (o : Result ℕ Refusal) → Meets c w v before o last → (told o).len ≤ 25
  length_held p (Ok n) m = (length_bound c w v before last n m p).1
  length_held p (Err TooShort) m = omega arith
  length_held p (Err NotFinite) m = omega arith

  -- The outcome's numbers and the call's bytes are what a call from C promises.
  pub exported : (o : Result ℕ Refusal) {number len : ℕ} → Meets c w v before o last → number ≡ (told o).number → len ≡ (told o).len → Exported c w v before number len last
  exported o m n l = record {
    number_is = n ∙ ap (λ (a : Answer). a.number) m.answers;
    length_is = l ∙ ap (λ (a : Answer). a.len) m.answers;
    bytes = m.bytes;
  }

-- So it is for a row.
module _ (w : Width) (vs before last : List ℕ) where
  pub row_length_held : {q : ℕ} → Printable w q → (o : Result ℕ RowRefusal) → MeetsRow w vs before o last → (row_told o).len ≤ row_room * row_limit
  row_length_held p (Ok n) m = row_length_most w vs before last n m p
  row_length_held p (Err many.TooMany) m = omega arith
  row_length_held p (Err many.TooShort) m = omega arith

  pub row_exported : (o : Result ℕ RowRefusal) {number len : ℕ} → MeetsRow w vs before o last → number ≡ (row_told o).number → len ≡ (row_told o).len →
      ExportedRow w vs before number len last
  row_exported o m n l = record {
    number_is = n ∙ ap (λ (a : Answer). a.number) m.answers;
    length_is = l ∙ ap (λ (a : Answer). a.len) m.answers;
    bytes = m.bytes;
  }
