-- A number times powers of five and two. Assumes nothing.
use Rattle.std.specs.Prelude.{ℕ, ◌*◌, ◌^◌}
use Rattle.limbs.specs.declared.Factor.{Factor}

-- x * 5^fives * 2^twos.
abbrev pub times : ℕ → Factor → ℕ
times x by = x * 5 ^ by.fives * 2 ^ by.twos
