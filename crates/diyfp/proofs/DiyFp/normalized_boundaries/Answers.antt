-- `diyfp::DiyFp::normalized_boundaries` meets its contract. Assumes nothing.
use Prim.Native.Nat.{◌^◌, ◌≤◌}
use native.Mathlib.Omega.{arith}
use lib.IntN.{◌-ℤ◌}
use lib.Pow.{pow_mono}
use Rattle.laws.proofs.Signed.{read}
use Rattle.diyfp.proofs.Bounding.{above, Brought, brings, bounds}
use Rattle.diyfp.proofs.DiyFp.normalized_boundaries.Given.{Over}
use Rattle.diyfp.proofs.DiyFp.normalized_boundaries.Goals as goal
use Rattle.diyfp.proofs.DiyFp.normalized_boundaries.Goals.{After-below-below}

-- A word of 64 bits holds a significand.
word : (g : Over) → 2 ^ g.P.Pattern.width.N ≤ 2 ^ 64
word g = pow_mono {i = g.P.Pattern.width.N} {j = 64} g.met.P.Pattern.numbers.product

-- The lower boundary, brought to the upper's exponent.
lowers : (g : Over) (c : After-below-below g) →
    Brought g.P.Pattern.width c.requires.pair (2 ^ 64) c.below-below.result.f
    (read c.below-below.result.e -ℤ read c.normalize-plus.result.e)
lowers g c =
    let p = c.requires in
    brings g.met.P.Pattern.printable.sound g.met.P.Pattern.small (2 ^ 64) (word g) p c.below-below.ensures c.normalize-plus.ensures p.pair p.stands

pub normalize-plus-requires : goal.normalize-plus-requires
normalize-plus-requires g c = above g.met.P.Pattern.printable.sound g.met.P.Pattern.small (2 ^ 64) (word g) c.requires

pub overflow_sub-minus : goal.overflow_sub-minus
overflow_sub-minus g c = (lowers g (goal.at.overflow_sub-minus g c).After-below-below).fits

pub overflow_cast-minus : goal.overflow_cast-minus
overflow_cast-minus g c =
    let l = lowers g (goal.at.overflow_cast-minus g c).After-below-below in
    (l.natural, record { fits = omega (arith, l.small, g.met.P.Pattern.numbers.product) })

pub overflow_shl-minus : goal.overflow_shl-minus
overflow_shl-minus g c =
    omega (arith, (lowers g (goal.at.overflow_shl-minus g c).After-below-below).small, g.met.P.Pattern.numbers.product)

pub returns : goal.returns
returns g c =
    bounds g.met.P.Pattern.printable.sound g.met.P.Pattern.small (2 ^ 64) (word g) c.requires c.below-below.ensures
    c.normalize-plus.ensures
