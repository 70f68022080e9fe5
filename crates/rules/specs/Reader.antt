-- What a text is read as at a width: the answer's number and the pattern. Assumes nothing.
use Rattle.std.specs.Prelude.{ℕ, ◌+◌, ◌-◌, ◌^◌, Bool, true, false, ◌||◌, List, ltb, eqb, length}
use Rattle.rules.specs.Width.{Width}
use Rattle.rules.specs.Reading.{Exact, refused, notANumber, infinite, number, exact, infinity, nearest, with_sign}

-- An answer: its number and the pattern. A refusal has pattern 0.
pub record Reading : Type 0 where
  pub number : ℕ
  pub pattern : ℕ

-- The pattern that `NaN` is read as: quiet, without a sign, and all bits below the quiet one 0.
unfoldable pub quiet_nan : Width → ℕ
quiet_nan w = infinity w + 2 ^ (w.S - 1)

-- What is answered to what a text says: 11 where that is nothing, and 0 with the pattern otherwise.
unfoldable pub answered : Width → Exact → Reading
answered w refused = record { number = 11; pattern = 0 }
answered w notANumber = record { number = 0; pattern = quiet_nan w }
answered w (infinite s) = record { number = 0; pattern = with_sign w s (infinity w) }
answered w (number s n d) = record { number = 0; pattern = with_sign w s (nearest w n d) }

-- Whether a text is too short or too long to be read: 1 to 64 bytes are read.
unfoldable pub unread : ℕ → Bool
unread len = eqb len 0 || ltb 64 len

-- What a text is read as: 10 by its length, looked at first.
unfoldable pub reading : Width → List ℕ → Reading
reading w t = elim (unread (length t)) [ true ↦ record { number = 10; pattern = 0 } | false ↦ answered w (exact t) ]
