-- `diyfp::DiyFp::times` meets its contract. Assumes nothing.
use mathlib.Core.Path.{◌≡◌, ◌∙◌}
use native.Mathlib.Omega.{arith}
use lib.IntN.{pos}
use mir.Syntax.{w32}
use mir.Val.{to_z}
use Rattle.powers.proofs.Casts.{cast}
use Rattle.diyfp.proofs.Multiplying.{Sum, sums, product_is}
use Rattle.diyfp.proofs.DiyFp.times.Given.{Over}
use Rattle.diyfp.proofs.DiyFp.times.Goals as goal
use Rattle.diyfp.proofs.DiyFp.times.Goals.{After-PAIR-2}

-- The constant as it is cast, and the sum of the exponents with it.
bits : (g : Over) (c : After-PAIR-2 g) → to_z w32 c.PAIR-2.result ≡ pos g.P.Pattern.width.N
bits g c =
    let is = c.PAIR-2.ensures ∙ g.met.P.Pattern.numbers.pair_is in
    cast _ _ is (omega (arith, is, g.met.P.Pattern.small.sum))

exponents : (g : Over) (c : After-PAIR-2 g) → Sum c.args.self.e c.args.rhs.e g.P.Pattern.width.N
exponents g c = sums _ (omega (arith, g.met.P.Pattern.small.sum)) c.requires.0 c.requires.1.near

pub overflow_add-result-3 : goal.overflow_add-result-3
overflow_add-result-3 g c = rw (bits g c) (exponents g c).twice

pub returns : goal.returns
returns g c =
    let n = g.met.P.Pattern.numbers in
    record {
      significand =
          rw (c.PAIR.ensures, n.pair_is)
          (product_is g.P.Pattern.width g.met.P.Pattern.printable.sound.dropped n.product c.args.self.f c.args.rhs.f c.requires.1.fits);
      exponent = rw (bits g c) (exponents g c).whole;
    }
