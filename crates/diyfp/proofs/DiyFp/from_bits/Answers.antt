-- `diyfp::DiyFp::from_bits` meets its contract. Assumes nothing.
use mathlib.Core.Path.{◌≡◌, refl, ◌∙◌}
use Prim.Native.Nat.{ℕ, ◌+◌, ◌-◌, ◌/◌, ◌^◌, ◌<◌}
use native.Mathlib.Omega.{arith}
use lib.Bits.{bit_and, and_le_r}
use lib.IntN.{pos}
use mir.Syntax.{w32}
use mir.Val.{to_z}
use Rattle.rules.specs.Pattern.{biased, significand}
use Rattle.powers.proofs.Casts.{cast}
use Rattle.diyfp.proofs.Splitting.{exponent_field, significand_field, above_least, normal, subnormal}
use Rattle.diyfp.proofs.DiyFp.from_bits.Given.{Over}
use Rattle.diyfp.proofs.DiyFp.from_bits.Goals as goal
use Rattle.diyfp.proofs.DiyFp.from_bits.Goals.{After-ONES}

-- What the constants come to.
module _ (g : Over) (c : After-ONES g) where
  unit : ℕ
  unit = g.P.Pattern.width.bias + g.P.Pattern.width.S

  unit_small : unit < 2 ^ 31
  unfolding unit
  unit_small = omega (arith, g.met.P.Pattern.numbers.unit)

  unit_is : to_z w32 (c.BIAS.result + c.FRACTION.result) ≡ pos unit
  unfolding unit
  unit_is =
      let n = g.met.P.Pattern.numbers in
      let is : c.BIAS.result + c.FRACTION.result ≡ unit = omega (arith, c.BIAS.ensures, c.FRACTION.ensures, n.bias_is, n.fraction_is) in
      cast _ _ is (omega (arith, is, unit_small))

  field : ℕ
  field = bit_and (c.bits-bits.result / 2 ^ c.FRACTION-2.result) c.ONES.result

  field_small : field < 2 ^ 31
  unfolding field
  field_small =
      let n = g.met.P.Pattern.numbers in
      omega (arith, and_le_r (c.bits-bits.result / 2 ^ c.FRACTION-2.result) c.ONES.result, c.ONES.ensures, n.ones_is, n.most)

  upper : field ≡ biased g.P.Pattern.width (g.P.Pattern.number c.args.pattern)
  unfolding field
  upper =
      let n = g.met.P.Pattern.numbers in
      rw (← c.bits-bits.ensures.same)
      (exponent_field g.P.Pattern.width c.bits-bits.result _ _ (c.FRACTION-2.ensures ∙ n.fraction_is) (c.ONES.ensures ∙ n.ones_is))

  low : bit_and c.bits-bits.result (c.hidden_bit-hidden.result - 1) ≡ significand g.P.Pattern.width (g.P.Pattern.number c.args.pattern)
  low = rw (← c.bits-bits.ensures.same) (significand_field g.P.Pattern.width c.bits-bits.result _ c.hidden_bit-hidden.ensures)

pub returns-then-biased_e-ne0 : goal.returns-then-biased_e-ne0
unfolding unit field
returns-then-biased_e-ne0 g c =
    let d = (goal.at.returns-then-biased_e-ne0 g c).After-ONES in
    rw (unit_is g d, cast _ _ refl (field_small g d))
    (normal g.P.Pattern.width _ _ _ (upper g d) (low g d) c.hidden_bit-hidden.ensures c.if-biased_e-ne0.true
    (above_least (unit g d) (field g d) (unit_small g d) (field_small g d)))

pub returns-else-biased_e-ne0 : goal.returns-else-biased_e-ne0
unfolding unit field
returns-else-biased_e-ne0 g c =
    let d = (goal.at.returns-else-biased_e-ne0 g c).After-ONES in
    rw (unit_is g d)
    (subnormal g.P.Pattern.width _ _ _ (upper g d) (low g d) c.if-biased_e-ne0.false (above_least (unit g d) 1 (unit_small g d) (omega arith)))
