-- The product of two pairs' significands. Assumes nothing.
use Rattle.std.specs.Prelude.{ℕ, ◌+◌, ◌-◌, ◌*◌, ◌/◌, ◌^◌}
use Rattle.rules.specs.Width.{Width}

-- The whole product, of which the low bits are dropped first; then 2^(N - 1) is added and the sum divided by 2^N, rounded down.
unfoldable pub product : Width → ℕ → ℕ → ℕ
product w a c = (a * c / 2 ^ w.dropped * 2 ^ w.dropped + 2 ^ (w.N - 1)) / 2 ^ w.N
