-- What the code asks of a width: its exponents are so small that no sum of them leaves an i32. Assumes nothing.
use Prim.Native.Nat.{◌+◌, ◌*◌, ◌^◌, ◌<◌}
use lib.Dec.{lit<}
use lib.ListN.{length}
use Rattle.rules.specs.Tables.{significands32, significands64}
use Rattle.rules.specs.Width.{Width, w32, w64, off}
use Rattle.rules.specs.Pattern.{all_ones}

-- The sum of all that exponents are made of is below 2^13.
pub record Small (w : Width) : Type 0 where
  pub some : 0 < w.N
  pub sum : off w + all_ones w + w.S + w.N + w.twos + w.tens + 8 * length w.significands < 2 ^ 13

-- Binary32 is so ..
pub small32 : Small w32
unfolding w32 off all_ones significands32
small32 = record { some = lit< tt; sum = lit< tt }

-- .. and binary64.
pub small64 : Small w64
unfolding w64 off all_ones significands64
small64 = record { some = lit< tt; sum = lit< tt }
