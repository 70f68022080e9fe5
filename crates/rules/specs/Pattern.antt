-- What a pattern means, by IEEE 754-2019: its sign, biased exponent and significand, and its magnitude. Assumes nothing.
use Rattle.std.specs.Prelude.{ℕ, ◌+◌, ◌-◌, ◌/◌, ◌%◌, ◌^◌, Bool, true, false, eqb}
use Rattle.rules.specs.Width.{Width}

-- Whether the sign bit, the highest, is set.
unfoldable pub negative : Width → ℕ → Bool
negative w v = eqb (v / 2 ^ (w.bits - 1) % 2) 1

-- The biased exponent, the bits between the sign and the significand.
unfoldable pub biased : Width → ℕ → ℕ
biased w v = v / 2 ^ w.S % 2 ^ (w.bits - 1 - w.S)

-- The significand, the low bits.
unfoldable pub significand : Width → ℕ → ℕ
significand w v = v % 2 ^ w.S

-- A biased exponent with all bits ones.
unfoldable pub all_ones : Width → ℕ
all_ones w = 2 ^ (w.bits - 1 - w.S) - 1

-- Whether a pattern is a NaN or an infinity: its exponent bits are all ones.
unfoldable pub special : Width → ℕ → Bool
special w v = eqb (biased w v) (all_ones w)

-- A pair: the number f * 2^e, where `exp` is e with `off` added.
pub record Pair : Type 0 where
  pub f : ℕ
  pub exp : ℕ

-- A finite pattern's magnitude: with b not 0, f is the significand and the hidden bit, and e = b - bias - S;
-- with b = 0, f is the significand, and e = 1 - bias - S. With `off` added, that is b + N and 1 + N.
unfoldable pub magnitude : Width → ℕ → Pair
magnitude w v =
    elim (eqb (biased w v) 0) [
      | true ↦ record { f = significand w v; exp = 1 + w.N }
      | false ↦ record { f = significand w v + 2 ^ w.S; exp = biased w v + w.N }
    ]
