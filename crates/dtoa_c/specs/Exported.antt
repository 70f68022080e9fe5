-- What a call from C promises: the number, the length, and every byte of the buffer at exit. Assumes nothing.
use Rattle.std.specs.Prelude.{ℕ, List, ◌≡◌, length}
use Rattle.rules.specs.Width.{Width}
use Rattle.rules.specs.Answer.{Entry, answer, after}
use Rattle.rules.specs.Row.{row_answer, row_after}

-- The two numbers of an answer, and the bytes, are those of docs/RULES.md, section 6.
pub record Exported (c : Entry) (w : Width) (v : ℕ) (before : List ℕ) (number len : ℕ) (last : List ℕ) : Type 0 where
  pub number_is : number ≡ (answer c w v (length before)).number
  pub length_is : len ≡ (answer c w v (length before)).len
  pub bytes : last ≡ after c w v before

-- So it is for a row.
pub record ExportedRow (w : Width) (vs before : List ℕ) (number len : ℕ) (last : List ℕ) : Type 0 where
  pub number_is : number ≡ (row_answer w vs (length before)).number
  pub length_is : len ≡ (row_answer w vs (length before)).len
  pub bytes : last ≡ row_after w vs before
