-- What the ends of the table of powers of ten ask of a width. Assumes nothing.
use lib.Dec.{lit<}
use Rattle.std.specs.Prelude.{◌-◌, ◌*◌, ◌^◌, ◌<◌}
use Rattle.rules.specs.Width.{Width, w32, w64}
use Rattle.rules.specs.Pattern.{all_ones}
use Rattle.rules.specs.Reading.{infinity, low}
use Rattle.theorems.proofs.Halfway.{midpoint}
use Rattle.theorems.proofs.Readable.{Readable, readable32, readable64}
use Rattle.theorems.proofs.Units.{units_of}

-- The power 10^-324 is below half of its smallest magnitude, and 10^309 is beyond its last midpoint.
pub record Spanned (w : Width) : Type 0 where
  pub readable : Readable w
  pub some : 0 < infinity w
  pub least : 2 * 2 ^ low w < midpoint w 0 * 10 ^ 324
  pub most : midpoint w (infinity w - 1) < 2 * (10 ^ 309 * 2 ^ low w)

-- Binary32 is so ..
pub spanned32 : Spanned w32
unfolding w32 low infinity all_ones midpoint units_of
spanned32 = record { readable = readable32; some = lit< tt; least = lit< tt; most = lit< tt }

-- .. and binary64.
pub spanned64 : Spanned w64
unfolding w64 low infinity all_ones midpoint units_of
spanned64 = record { readable = readable64; some = lit< tt; least = lit< tt; most = lit< tt }
