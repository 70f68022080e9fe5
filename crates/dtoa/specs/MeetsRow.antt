-- What the call for a row answers, as a result, and as the number and the length of docs/RULES.md, section 6. Assumes nothing.
use Rattle.std.specs.Prelude.{ℕ, List, ◌≡◌, length, Result, Ok, Err}
use Rattle.rules.specs.Width.{Width}
use Rattle.rules.specs.Answer.{Answer}
use Rattle.rules.specs.Row.{row_answer, row_after}
use Rattle.dtoa.specs.declared.RowRefusal.{RowRefusal}
use Rattle.dtoa.specs.declared.RowRefusal.TheVariants.{TooMany, TooShort}

-- The number and the length that a result stands for.
abbrev pub row_told : Result ℕ RowRefusal → Answer
row_told (Ok n) = record { number = 0; len = n }
row_told (Err TooMany) = record { number = 3; len = 0 }
row_told (Err TooShort) = record { number = 4; len = 0 }

-- What the call promises: its answer, and every byte of the buffer at exit.
pub record MeetsRow (w : Width) (vs before : List ℕ) (o : Result ℕ RowRefusal) (last : List ℕ) : Type 0 where
  pub answers : row_told o ≡ row_answer w vs (length before)
  pub bytes : last ≡ row_after w vs before
