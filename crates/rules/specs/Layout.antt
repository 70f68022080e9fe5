-- The layout of digits and an exponent as a text. Assumes nothing.
use Rattle.std.specs.Prelude.{ℕ, true, false, ◌&&◌, List, ◌∷◌, ◌++◌, eqb, ℤ, pos, negsuc, nat_abs, ◌+ℤ◌, ◌-ℤ◌, length, replicate, take, drop}
use Rattle.std.specs.Int.Signed.{le_z, lt_z}
use Rattle.rules.specs.Bytes.{bytes, byte0, point, minus, letter_e}
use Rattle.rules.specs.Numbers.{neg, plain}

-- n zeros.
unfoldable pub zeros : ℕ → List ℕ
zeros n = replicate n byte0

-- The exponent: `-` if negative, no plus, no leading zeros.
unfoldable pub exponent : ℤ → List ℕ
exponent (pos n) = plain n
exponent (negsuc n) = minus ∷ plain (nat_abs (negsuc n))

-- Rules 5 and 6: a digit by itself, or the first digit, a point and the others; then `e` and an exponent.
unfoldable pub scientific : List ℕ → ℤ → List ℕ
scientific ds e =
    elim (eqb (length ds) 1) [
      | true ↦ ds ++ (letter_e ∷ exponent e)
      | false ↦ take 1 ds ++ (point ∷ (drop 1 ds ++ (letter_e ∷ exponent e)))
    ]

-- Digits laid out by k and kk: the first rule that holds.
unfoldable pub by_rule : List ℕ → ℤ → ℤ → List ℕ
by_rule ds k kk =
    elim (le_z (pos 0) k && le_z kk (pos 21)) [
      | true ↦ ds ++ (zeros (nat_abs k) ++ bytes ".0")
      | false ↦
          elim (lt_z (pos 0) kk && le_z kk (pos 21)) [
            | true ↦ take (nat_abs kk) ds ++ (point ∷ drop (nat_abs kk) ds)
            | false ↦
                elim (lt_z (neg 6) kk && le_z kk (pos 0)) [
                  | true ↦ byte0 ∷ point ∷ (zeros (nat_abs kk) ++ ds)
                  | false ↦ scientific ds (kk -ℤ pos 1)
                ]
          ]
    ]

-- The layout of the digits' bytes, `len` of them, and the exponent k, with kk = len + k.
unfoldable pub layout : List ℕ → ℤ → List ℕ
layout ds k = by_rule ds k (pos (length ds) +ℤ k)
