-- `digits::Scaled::places_under` meets its contract. Assumes nothing.
use mathlib.Core.Path.{refl}
use native.Mathlib.Omega.{arith}
use Rattle.laws.proofs.Puts.{kept}
use Rattle.digits.proofs.PlacesUnder.{none_tried, rest_small, not_far, next_less, one_tried}
use Rattle.digits.proofs.Scaled.places_under.Goals as goal

pub loop-room-init : goal.loop-room-init
loop-room-init c = none_tried c.requires _ _ c.low_bits-rest.ensures refl

pub overflow_mul-tens : goal.overflow_mul-tens
overflow_mul-tens c = omega (arith, rest_small c.requires c.loop-room.invariant (omega (arith, c.loop-room-test.true)))

pub digit-at-requires-clause-at_in_bounds : goal.digit-at-requires-clause-at_in_bounds
digit-at-requires-clause-at_in_bounds c =
    omega (arith, kept c.loop-room.invariant.text, next_less c.requires c.loop-room.invariant (omega (arith, c.loop-room-test.true)))

pub overflow_mul-room : goal.overflow_mul-room
overflow_mul-room c =
    omega (arith, rest_small c.requires c.loop-room.invariant (omega (arith, c.loop-room-test.true)), c.loop-room-test.true)

pub loop-room-smaller : goal.loop-room-smaller
loop-room-smaller c =
    omega (arith, not_far c.requires c.loop-room.invariant (omega (arith, c.loop-room-test.true)))

pub loop-room-preserved : goal.loop-room-preserved
loop-room-preserved c =
    one_tried c.requires c.loop-room.invariant (omega (arith, c.loop-room-test.true)) c.digit-at.ensures c.low_bits-rest-in-loop-room.ensures
