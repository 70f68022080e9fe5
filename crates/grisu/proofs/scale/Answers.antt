-- `grisu::scale` meets its contract. Assumes nothing.
use native.Mathlib.Omega.{arith}
use lib.Pow.{pow_mono}
use Rattle.rules.specs.Boundaries.{value}
use Rattle.theorems.proofs.Widths.{Sound}
use Rattle.diyfp.specs.Pairs.{Factor}
use Rattle.grisu.proofs.Scaling.{upper_near, lower_near, value_near, power_factor, shiftable, upper_read, serves, Products, made, one_less, one_more, ordered, shift_fits, shift_natural, shift_small, scales_to}
use Rattle.grisu.proofs.scale.Given.{Over}
use Rattle.grisu.proofs.scale.Goals as goal
use Rattle.grisu.proofs.scale.Goals.{After-normalized_boundaries-b, After-get_cached_power-c, After-times-wm}

sound : (g : Over) → Sound g.P.Pattern.width g.P.Pattern.digits
sound g = g.met.P.Pattern.printable.sound

-- The power is a factor.
power : (g : Over) (c : After-get_cached_power-c g) → Factor g.P.Pattern.width c.get_cached_power-c.result.power
power g c =
    let small = g.met.P.Pattern.small in
    let plus = c.normalized_boundaries-b.ensures.plus _ c.from_bits-v.ensures in
    power_factor (sound g) small c.requires (c.get_cached_power-c.ensures _ (upper_read (sound g) small c.requires plus))

-- The three products.
products : (g : Over) (c : After-times-wm g) →
    Products (sound g) g.met.P.Pattern.small c.requires c.times-wp.result.f c.times-wm.result.f c.times-w.result.f c.times-wp.result.e
    c.get_cached_power-c.result.k
unfolding value
products g c =
    made (sound g) g.met.P.Pattern.small c.requires c.from_bits-v.ensures c.normalized_boundaries-b.ensures c.normalize.ensures
    c.get_cached_power-c.ensures c.times-wp.ensures c.times-wm.ensures c.times-w.ensures

pub get_cached_power-c-requires : goal.get_cached_power-c-requires
get_cached_power-c-requires g c =
    serves (sound g) g.met.P.Pattern.small c.requires (c.normalized_boundaries-b.ensures.plus _ c.from_bits-v.ensures)

pub normalize-requires : goal.normalize-requires
normalize-requires g c = shiftable (sound g) g.met.P.Pattern.small c.requires c.from_bits-v.ensures

pub times-w-requires : goal.times-w-requires
unfolding value
times-w-requires g c =
    (value_near (sound g) g.met.P.Pattern.small c.requires (c.normalize.ensures _ c.from_bits-v.ensures), power g (goal.at.times-w-requires g c).After-get_cached_power-c)

pub times-wp-requires : goal.times-wp-requires
times-wp-requires g c =
    (upper_near (sound g) g.met.P.Pattern.small c.requires (c.normalized_boundaries-b.ensures.plus _ c.from_bits-v.ensures), power g (goal.at.times-wp-requires g c).After-get_cached_power-c)

pub times-wm-requires : goal.times-wm-requires
times-wm-requires g c =
    (lower_near (sound g) g.met.P.Pattern.small c.requires (c.normalized_boundaries-b.ensures.minus _ c.from_bits-v.ensures), power g (goal.at.times-wm-requires g c).After-get_cached_power-c)

pub overflow_sub-h : goal.overflow_sub-h
overflow_sub-h g c = omega (arith, one_less (sound g) g.met.P.Pattern.small _ (products g (goal.at.overflow_sub-h g c).After-times-wm))

pub overflow_add-result : goal.overflow_add-result
overflow_add-result g c =
    let word = pow_mono {i = g.P.Pattern.width.N} {j = 64} g.met.P.Pattern.numbers.product in
    record { fits = omega (arith, word, one_more (sound g) g.met.P.Pattern.small _ (products g (goal.at.overflow_add-result g c).After-times-wm)) }

pub overflow_sub-result : goal.overflow_sub-result
overflow_sub-result g c = omega (arith, ordered (sound g) g.met.P.Pattern.small _ (products g (goal.at.overflow_sub-result g c).After-times-wm))

pub overflow_sub-result-2 : goal.overflow_sub-result-2
overflow_sub-result-2 g c = shift_fits (sound g) g.met.P.Pattern.small _ (products g (goal.at.overflow_sub-result-2 g c).After-times-wm)

pub overflow_cast-result : goal.overflow_cast-result
overflow_cast-result g c =
    let p = products g (goal.at.overflow_cast-result g c).After-times-wm in
    (shift_natural (sound g) g.met.P.Pattern.small _ p, record { fits = shift_small (sound g) g.met.P.Pattern.small _ p })

pub returns : goal.returns
returns g c = scales_to (sound g) g.met.P.Pattern.small _ (products g (goal.at.returns g c).After-times-wm)
