-- What a call answers, as a result, and as the number and the length of docs/RULES.md, section 6. Assumes nothing.
use Rattle.std.specs.Prelude.{ℕ, List, ◌≡◌, length, Result, Ok, Err}
use Rattle.rules.specs.Width.{Width}
use Rattle.rules.specs.Answer.{Entry, Answer, answer, after}
use Rattle.dtoa.specs.declared.Refusal.{Refusal}
use Rattle.dtoa.specs.declared.Refusal.TheVariants.{TooShort, NotFinite}

-- The number and the length that a result stands for.
abbrev pub told : Result ℕ Refusal → Answer
told (Ok n) = record { number = 0; len = n }
told (Err TooShort) = record { number = 1; len = 0 }
told (Err NotFinite) = record { number = 2; len = 0 }

-- What a call promises: its answer, and every byte of the buffer at exit.
pub record Meets (c : Entry) (w : Width) (v : ℕ) (before : List ℕ) (o : Result ℕ Refusal) (last : List ℕ) : Type 0 where
  pub answers : told o ≡ answer c w v (length before)
  pub bytes : last ≡ after c w v before
