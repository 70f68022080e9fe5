-- What each of the four calls for one pattern answers, and what it leaves in the lent buffer. Assumes nothing.
use Rattle.std.specs.Prelude.{ℕ, Bool, true, false, List, ◌++◌, ltb, eqb, length, drop}
use Rattle.rules.specs.Width.{Width}
use Rattle.rules.specs.Pattern.{special}
use Rattle.rules.specs.Text.{text}

-- The two kinds of entry: one prints every pattern, the other finite ones only.
pub data Entry : Type 0 where
  every : Entry
  finite_only : Entry

-- Whether an entry refuses a pattern.
unfoldable pub refuses : Entry → Width → ℕ → Bool
refuses every w v = false
refuses finite_only w v = special w v

-- The answer's number, by the room in the lent buffer: 1 too short, looked at first; 2 refused by the entry; 0 printed.
unfoldable pub number : Entry → Width → ℕ → ℕ → ℕ
number c w v room = elim (ltb room 25) [ true ↦ 1 | false ↦ elim (refuses c w v) [ true ↦ 2 | false ↦ 0 ] ]

-- An answer: its number and the length of the text.
pub record Answer : Type 0 where
  pub number : ℕ
  pub len : ℕ

-- The answer with a number and a text: at 0 the text's length. A refusal has length 0.
unfoldable pub answering : ℕ → List ℕ → Answer
answering n t = record { number = n; len = elim (eqb n 0) [ true ↦ length t | false ↦ 0 ] }

-- The buffer after it: the text from byte 0, and every byte from its length on as before. A refusal changes no byte.
unfoldable pub leaving : ℕ → List ℕ → List ℕ → List ℕ
leaving n t buf = elim (eqb n 0) [ true ↦ t ++ drop (length t) buf | false ↦ buf ]

-- What a call answers, by the room in the lent buffer.
unfoldable pub answer : Entry → Width → ℕ → ℕ → Answer
answer c w v room = answering (number c w v room) (text w v)

-- The buffer after a call.
unfoldable pub after : Entry → Width → ℕ → List ℕ → List ℕ
after c w v buf = leaving (number c w v (length buf)) (text w v) buf
