-- What each way to end the call for a row promises. Assumes nothing.
use mathlib.Core.Bool.{true, false}
use mathlib.Core.List.{List}
use mathlib.Core.Path.{◌≡◌, refl, ◌∙◌}
use Prim.Native.Nat.{ℕ, ◌*◌, ◌≤◌, ◌<◌}
use native.Mathlib.Omega.{arith}
use lib.Dec.{ltb, lt→ltb, ltb→lt}
use lib.ListN.{length}
use Rattle.laws.specs.Puts.{Puts}
use Rattle.laws.proofs.Branches.{either, taken}
use Rattle.rules.specs.Width.{Width}
use Rattle.rules.specs.Row.{row, row_limit, row_room, row_number, row_answer, row_after}
use Rattle.theorems.proofs.Results as results
use Rattle.theorems.proofs.Results.{Right}
use Rattle.dtoa.specs.MeetsRow.{MeetsRow, row_told}
use Rattle.std.specs.Prelude.{Result, Ok, Err}
use Rattle.dtoa.specs.declared.RowRefusal.{RowRefusal}
use Rattle.dtoa.specs.declared.RowRefusal.TheVariants.{TooMany, TooShort}

module _ (w : Width) (vs before : List ℕ) where
  -- What the call promises is that its answer and its bytes are right for its number and its row.
  meets : {o : Result ℕ RowRefusal} {last : List ℕ} → Right (row_number (length vs) (length before)) (row w vs) before (row_told o) last → MeetsRow w vs before o last
  unfolding row_answer row_after
  meets r = record { answers = r.answers; bytes = r.bytes }

  pub right : {o : Result ℕ RowRefusal} {last : List ℕ} → MeetsRow w vs before o last → Right (row_number (length vs) (length before)) (row w vs) before (row_told o) last
  unfolding row_answer row_after
  right m = record { answers = m.answers; bytes = m.bytes }

  -- More patterns than a row may have.
  pub too_many : row_limit < length vs → MeetsRow w vs before (Err TooMany) before
  unfolding row_number
  too_many many = meets (results.refused (taken _ (ltb row_limit (length vs)) (lt→ltb row_limit (length vs) many) refl) tt)

  few : length vs ≤ row_limit →
      row_number (length vs) (length before) ≡ elim (ltb (length before) (row_room * length vs)) as (λ _. ℕ) [ true ↦ 4 | false ↦ 0 ]
  unfolding row_number
  few most =
      either (λ (n : ℕ). n ≡ elim (ltb (length before) (row_room * length vs)) as (λ _. ℕ) [ true ↦ 4 | false ↦ 0 ]) (ltb row_limit (length vs))
      (λ t. absurd (omega (arith, ltb→lt row_limit (length vs) t))) (λ t. refl)

  -- A buffer with fewer than 26 bytes for each.
  pub too_short : length vs ≤ row_limit → length before < row_room * length vs → MeetsRow w vs before (Err TooShort) before
  too_short most short =
      meets (results.refused (few most ∙ taken 0 (ltb (length before) (row_room * length vs)) (lt→ltb (length before) (row_room * length vs) short) refl) tt)

  -- A printed row.
  pub printed : length vs ≤ row_limit → row_room * length vs ≤ length before → {last : List ℕ} {next : ℕ} → Puts (row w vs) before 0 last next →
      MeetsRow w vs before (Ok next) last
  printed most room puts =
      meets
      (results.printed
      (few most ∙ either (λ (n : ℕ). n ≡ 0) (ltb (length before) (row_room * length vs)) (λ t. absurd (omega (arith, ltb→lt (length before) (row_room * length vs) t))) (λ t. refl))
      puts)
