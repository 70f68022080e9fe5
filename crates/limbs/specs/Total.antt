-- The number that limbs of 32 bits stand for, the lowest first. Assumes nothing.
use Rattle.std.specs.Prelude.{◌≡◌, List, ℕ, zero, suc, ◌+◌, ◌*◌, ◌^◌, ◌≤◌, ◌<◌, get_or, length}

-- What the first i limbs stand for.
unfoldable pub low : List ℕ → ℕ → ℕ
low l zero = 0
low l (suc i) = low l i + get_or l i 0 * 2 ^ (32 * i)

-- What all limbs stand for.
unfoldable pub total : List ℕ → ℕ
total l = low l (length l)

-- Every number below this has room in the limbs.
unfoldable pub room : List ℕ → ℕ
room l = 2 ^ (32 * length l)

-- As many limbs as before stand for n.
pub record Becomes (before last : List ℕ) (n : ℕ) : Type 0 where
  pub same : length last ≡ length before
  pub is : total last ≡ n

-- Limbs that are all 0 have room for x times powers of five and two.
pub record Fits (l : List ℕ) (x fives twos : ℕ) : Type 0 where
  pub clear : total l ≡ 0
  pub within : twos ≤ 32 * length l
  pub holds : x * 5 ^ fives * 2 ^ twos < room l

-- Two lists of as many limbs have room for both sides of a comparison, and the second for 64 bits above its twos.
pub record Sides (a b : List ℕ) (x fives up m mfives down : ℕ) : Type 0 where
  pub alike : length a ≡ length b
  pub word : 64 + down ≤ 32 * length b
  pub left : Fits a x fives up
  pub right : Fits b m mfives down
