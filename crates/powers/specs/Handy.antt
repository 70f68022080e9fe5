-- The steps from an exponent to its power of ten, in numbers that a test computes at each exponent. Assumes nothing.
use Prim.Native.Nat.{ℕ, ◌+◌, ◌-◌, ◌*◌, ◌/◌, ◌^◌, ◌≤◌}
use lib.Dec.{T, lit≤}
use Rattle.laws.proofs.Tests.{Test, le, lt, ◌and◌, up_to}
use Rattle.rules.specs.Width.{Width, w32, w64, off}
use Rattle.rules.specs.Pattern.{all_ones}

-- -j with m added, as a natural number. E is e with `off` added.
abbrev pub quotient : Width → ℕ → ℕ → ℕ
quotient w m E = ((E + (w.N - 3)) * 78913 + (m * 2 ^ 18 - off w * 78913)) / 2 ^ 18

-- That j is the smallest whole number that serves, as a test that computes.
abbrev pub test : Width → ℕ → ℕ → Test
test w m E =
    let r = m + (w.tens + 7) - quotient w m E in
    lt (quotient w m E) (m + (w.tens + 7))
    and le (10 ^ (w.tens + 7) * 2 ^ (off w + 3)) (10 ^ r * 2 ^ (E + w.N))
    and lt (10 ^ (r - 1) * 2 ^ (E + w.N)) (10 ^ (w.tens + 7) * 2 ^ (off w + 3))

-- What is asked of a width and m, so that every step is held.
pub record Handy (w : Width) (m : ℕ) : Type 0 where
  pub few : m ≤ 2 ^ 12
  pub whole : off w * 78913 ≤ m * 2 ^ 18
  pub tested : T (up_to (test w m) (all_ones w + w.S + 1))

-- At each of the 279 exponents of 32 bits ..
pub handy32 : Handy w32 64
unfolding w32 off all_ones
handy32 = record { few = lit≤ tt; whole = lit≤ tt; tested = tt }

-- .. and at each of the 2,100 of 64 bits.
pub handy64 : Handy w64 512
unfolding w64 off all_ones
handy64 = record { few = lit≤ tt; whole = lit≤ tt; tested = tt }
