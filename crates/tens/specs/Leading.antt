-- The leading 64 bits of the powers of ten from 10^-342 to 10^309. Assumes nothing.
use Rattle.std.specs.Prelude.{ℕ, ◌+◌, ◌*◌, ◌/◌, ◌^◌, ◌≤◌, ◌<◌}

-- The binary exponent of 10^(i - 342)'s leading 64 bits, with 1200 added.
unfoldable pub exponent : ℕ → ℕ
exponent i = (217706 * i + 58980) / 65536

-- The number x is the leading 64 bits of 10^(i - 342): x * 2^(exponent i - 1200) is at most that power, and the next number is above it.
pub record Leading (i x : ℕ) : Type 0 where
  pub high : 2 ^ 63 ≤ x
  pub below : x * 2 ^ exponent i * 10 ^ 342 ≤ 10 ^ i * 2 ^ 1200
  pub above : 10 ^ i * 2 ^ 1200 < (x + 1) * 2 ^ exponent i * 10 ^ 342

-- Four numbers are those of 10^(i - 342) and of the three powers behind it.
pub record Fours (i a b c d : ℕ) : Type 0 where
  pub first : Leading i a
  pub second : Leading (i + 1) b
  pub third : Leading (i + 2) c
  pub fourth : Leading (i + 3) d
