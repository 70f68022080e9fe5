-- Numbers below zero, and numbers in decimal digits. Assumes nothing.
use Rattle.std.specs.Prelude.{ℕ, zero, suc, ◌+◌, ◌/◌, ◌%◌, ◌^◌, true, false, List, [], ◌∷◌, ltb, ℤ}
use Rattle.std.proofs.Math.IntN.{sub_ℕ}
use Rattle.rules.specs.Bytes.{byte0}

-- Minus n.
abbrev pub neg : ℕ → ℤ
neg n = sub_ℕ 0 n

-- How many decimal digits v has, at least one, counted no further than `fuel` past the first.
unfoldable pub count_up_to : ℕ → ℕ → ℕ
count_up_to zero v = 1
count_up_to (suc fuel) v = elim (ltb v 10) [ true ↦ 1 | false ↦ suc (count_up_to fuel (v / 10)) ]

-- How many decimal digits v has.
unfoldable pub count : ℕ → ℕ
count v = count_up_to v v

-- The last n decimal digits of v, as bytes, the first of them first.
unfoldable pub numeral : ℕ → ℕ → List ℕ
numeral zero v = []
numeral (suc n) v = (byte0 + v / 10 ^ n % 10) ∷ numeral n v

-- The number v in decimal digits, without leading zeros.
unfoldable pub plain : ℕ → List ℕ
plain v = numeral (count v) v
