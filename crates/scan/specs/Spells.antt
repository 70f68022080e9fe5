-- Eight bytes in one word, and the number that they make where all are digits. Assumes nothing.
use Rattle.std.specs.Prelude.{◌≡◌, ℕ, ◌<◌, List, [], map, length, bit_xor}
use Rattle.laws.specs.Lanes.{word, paired, Below}
use Rattle.scan.specs.Passes.{Passes}

-- Where the eight lanes of the word n are below 10, r is what they make by twos, fours and eights.
pub record Joins (n r : ℕ) : Type 0 where
  pub joins : (xs : List ℕ) → length xs ≡ 8 → Below 10 xs → word 8 xs ≡ n → word 64 (paired 10000 (paired 100 (paired 10 xs))) ≡ r

-- What a byte is more than the digit 0, if it is a digit; more than 9 if it is none.
abbrev pub above : ℕ → ℕ
above b = bit_xor b 0x30

-- The eight bytes that the word v comes from are digits, and make r.
pub record Spells (v r : ℕ) : Type 0 where
  pub spells : (xs : List ℕ) → length xs ≡ 8 → Below 256 xs → word 8 (map above xs) ≡ v → (r < 100000000) × Passes 0 xs 8 r []
