-- What reading answers, as a case, and as the number and the pattern of docs/RULES.md, section 8. Assumes nothing.
use Rattle.std.specs.Prelude.{ℕ, Result, Ok, Err}
use Rattle.rules.specs.Reader.{Reading}
use Rattle.reader.specs.declared.ReadError.{ReadError}
use Rattle.reader.specs.declared.ReadError.TheVariants.{WrongLength, WrongForm}

-- The number and the pattern that a case stands for, where `number` gives a pattern as a number.
abbrev pub told : {P : Type 0} → (P → ℕ) → Result P ReadError → Reading
told number (Ok v) = record { number = 0; pattern = number v }
told number (Err WrongLength) = record { number = 10; pattern = 0 }
told number (Err WrongForm) = record { number = 11; pattern = 0 }
