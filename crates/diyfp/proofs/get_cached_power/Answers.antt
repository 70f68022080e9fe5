-- `diyfp::get_cached_power` meets its contract. Assumes nothing.
use mathlib.Core.Path.{◌≡◌, ◌∙◌}
use Prim.Native.Nat.{◌<◌}
use native.Mathlib.Omega.{arith}
use lib.IntN.{pos}
use lib.ListN.{length}
use mir.Syntax.{w32}
use mir.Val.{to_z}
use Rattle.powers.proofs.Casts.{cast}
use Rattle.diyfp.proofs.Caching.{has_index, inside, eightfold, decimal_held, cached}
use Rattle.diyfp.proofs.get_cached_power.Given.{Over}
use Rattle.diyfp.proofs.get_cached_power.Goals as goal
use Rattle.diyfp.proofs.get_cached_power.Goals.{After-index_of-index, After-TENS}

entered : (g : Over) (c : After-index_of-index g) → c.index_of-index.result < length g.P.Pattern.width.significands
entered g c = inside g.met.P.Pattern.printable.sound g.met.P.Pattern.small c.requires c.power_k.ensures c.index_of-index.ensures

-- The constant as it is cast.
tens : (g : Over) (c : After-TENS g) → to_z w32 c.TENS.result ≡ pos g.P.Pattern.width.tens
tens g c =
    let is = c.TENS.ensures ∙ g.met.P.Powers.tabled.tens_is in
    cast _ _ is (omega (arith, is, g.met.P.Pattern.small.sum))

pub index_of-index-requires : goal.index_of-index-requires
index_of-index-requires g c = has_index g.met.P.Pattern.printable.sound g.met.P.Pattern.small c.requires c.power_k.ensures

pub significand-requires : goal.significand-requires
significand-requires g c = entered g c

pub exponent-requires : goal.exponent-requires
exponent-requires g c = entered g (goal.at.exponent-requires g c).After-index_of-index

pub overflow_cast-result-2 : goal.overflow_cast-result-2
overflow_cast-result-2 g c =
    let small = g.met.P.Pattern.small in
    let i = entered g (goal.at.overflow_cast-result-2 g c).After-index_of-index in
    let eight = eightfold g.met.P.Pattern.printable.sound small c.requires c.power_k.ensures c.index_of-index.ensures in
    record { sfits = omega (arith, i, eight, small.sum) }

pub overflow_sub-result : goal.overflow_sub-result
overflow_sub-result g c =
    rw (tens g c)
    (decimal_held g.met.P.Pattern.printable.sound g.met.P.Pattern.small c.requires c.power_k.ensures c.index_of-index.ensures).fits

pub returns : goal.returns
returns g c =
    rw (tens g c)
    (cached g.met.P.Pattern.printable.sound g.met.P.Pattern.small c.requires c.power_k.ensures c.index_of-index.ensures
    c.significand.ensures c.exponent.ensures)
