-- The line on which a table's binary exponents lie, rounded down. Assumes nothing.
use Rattle.std.specs.Prelude.{ℕ, ◌+◌, ◌*◌, ◌/◌, ◌^◌, get_or}
use Rattle.laws.proofs.Tests.{Test, le, ◌and◌}
use Rattle.rules.specs.Width.{Width}

-- The line at i: 8 * log2(10) = 26.57.. places for each entry.
abbrev pub line : ℕ → ℕ → ℕ
line start i = (i * 217706 + start) / 2 ^ 13

-- That it is the exponent, as a test that computes.
abbrev pub test : Width → ℕ → ℕ → Test
test w start i = le (line start i) (get_or w.exponents i 0) and le (get_or w.exponents i 0) (line start i)
