-- Which width the numbers of a target are. Assumes nothing.
use Rattle.std.specs.Prelude.{◌+◌, ◌*◌, ◌^◌, ◌≤◌, ◌<◌, ◌≡◌}
use Rattle.rules.specs.Width.{Width}
use Rattle.rules.specs.Pattern.{all_ones}
use Rattle.rules.specs.Reading.{low}
use Rattle.closest.specs.declared.Target.{Target}

-- A target has the numbers of the width w.
pub record Targets (t : Target) (w : Width) : Type 0 where
  pub fraction : t.fraction ≡ w.S
  pub base : t.base + low w ≡ 1200
  pub ones : t.ones ≡ all_ones w

-- A target's patterns have room in 63 bits, and their significands in 53.
pub record Sized (t : Target) : Type 0 where
  pub some : 0 < t.fraction
  pub few : t.fraction ≤ 52
  pub least : 126 ≤ t.base
  pub based : t.base ≤ 1200
  pub field : 2 ≤ t.ones
  pub most : t.ones ≤ 2047
  pub fits : t.ones * 2 ^ t.fraction < 2 ^ 63
