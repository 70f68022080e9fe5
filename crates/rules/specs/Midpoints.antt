-- The midpoints between a pattern's magnitude and those of its two neighbours, one pattern below and one above. Assumes nothing.
use Rattle.std.specs.Prelude.{ℕ, suc, ◌+◌, ◌-◌, ◌*◌, ◌^◌, ◌<◌}
use Rattle.rules.specs.Width.{Width, off}
use Rattle.rules.specs.Reading.{worth}

-- A midpoint is half the sum of two magnitudes: the sum, over 2^off, here; and its half by the 2 below.
-- To the pattern one below; below the smallest magnitude that is zero.
unfoldable pub midpoint_below : Width → ℕ → ℕ
midpoint_below w v = worth w (v - 1) + worth w v

-- To the pattern one above; above the largest that is the infinity's pattern, whose magnitude would be one equal step up.
unfoldable pub midpoint_above : Width → ℕ → ℕ
midpoint_above w v = worth w v + worth w (suc v)

-- The fraction n / d lies strictly between the two midpoints of the pattern v.
pub record Between (w : Width) (v n d : ℕ) : Type 0 where
  pub above : midpoint_below w v * d < n * (2 * 2 ^ off w)
  pub under : n * (2 * 2 ^ off w) < midpoint_above w v * d
