-- What the exact reading asks of a width, and that the two widths have it. Assumes nothing.
use Prim.Native.Nat.{◌+◌, ◌<◌}
use lib.Dec.{lit<}
use Rattle.rules.specs.Width.{Width, w32, w64}

-- A pattern has a significand, an exponent's field and a sign.
pub record Readable (w : Width) : Type 0 where
  pub digits : 0 < w.S
  pub field : w.S + 1 < w.bits

-- Binary32 and binary64 have all three.
pub readable32 : Readable w32
unfolding w32
readable32 = record { digits = lit< tt; field = lit< tt }

pub readable64 : Readable w64
unfolding w64
readable64 = record { digits = lit< tt; field = lit< tt }
