-- `digits::Scaled::places_above` meets its contract. Assumes nothing.
use native.Mathlib.Omega.{arith}
use Rattle.laws.proofs.Puts.{kept}
use Rattle.digits.proofs.PlacesAbove.{begun, at_most_nine, first_turn, place_tried, next_turn}
use Rattle.digits.proofs.Scaled.places_above.Goals as goal

pub loop-kappa-init : goal.loop-kappa-init
loop-kappa-init c = first_turn c.requires _ _ _ c.count_decimal_digit32-kappa.ensures c.low_bits-p2.ensures

pub digit-len-requires-clause-at_in_bounds : goal.digit-len-requires-clause-at_in_bounds
digit-len-requires-clause-at_in_bounds c =
    let so = begun c.loop-kappa-test.true c.loop-kappa.invariant in
    omega (arith, so.tried.sum, at_most_nine c.requires, c.requires.nine, kept so.tried.text)

pub returns-then-rest-self : goal.returns-then-rest-self
returns-then-rest-self c =
    let so = begun c.loop-kappa-test.true c.loop-kappa.invariant in
    record {
      tried = place_tried c.requires so c.split_digits-s.ensures c.digit-len.ensures c.shifted.ensures;
      failed = λ fails. absurd (omega (arith, fails, c.if-rest-self.true));
    }

pub loop-kappa-preserved : goal.loop-kappa-preserved
loop-kappa-preserved c =
    let so = begun c.loop-kappa-test.true c.loop-kappa.invariant in
    next_turn c.requires so c.split_digits-s.ensures c.digit-len.ensures c.shifted.ensures (omega (arith, c.if-rest-self.false))
