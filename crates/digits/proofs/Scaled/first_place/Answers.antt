-- `digits::Scaled::first_place` meets its contract. Assumes nothing.
use mathlib.Core.Path.{ap, ◌∙◌}
use Prim.Native.Nat.{ℕ, ◌*◌, ◌^◌, ◌<◌}
use native.Mathlib.Nat.{one-mul}
use native.Mathlib.Omega.{arith}
use mir.Facts.{to_z-of_z, to_z_pos}
use mir.Syntax.{w32}
use Rattle.digits.proofs.FirstPlace.{below_nine, unit_most, found_above, found_under}
use Rattle.laws.proofs.Signed.{minus, minus_fits}
use Rattle.digits.proofs.Scaled.first_place.Goals as goal

pub pow10-requires : goal.pow10-requires
pow10-requires c = omega (arith, below_nine c.requires c.places_above-top.ensures c.if-top-self.true)

pub shifted-requires-clause-shifted_fits : goal.shifted-requires-clause-shifted_fits
shifted-requires-clause-shifted_fits c =
    rw c.pow10.ensures (omega (arith, unit_most c.requires c.places_above-top.ensures c.if-top-self.true, c.well_formed))

pub overflow_cast-result : goal.overflow_cast-result
overflow_cast-result c = record { sfits = omega (arith, below_nine c.requires c.places_above-top.ensures c.if-top-self.true) }

pub returns-then-top-self : goal.returns-then-top-self
returns-then-top-self c =
    let passes = c.if-top-self.true in
    let nine = below_nine c.requires c.places_above-top.ensures passes in
    found_above c.requires c.places_above-top.ensures passes (to_z_pos w32 (omega (arith, nine)))
    (c.shifted.ensures ∙ ap (λ (n : ℕ). n * 2 ^ c.args.self.x) c.pow10.ensures)

pub returns : goal.returns
returns c =
    let few : c.places_under-low.result.down < 2 ^ 31 = omega (arith, c.places_under-low.ensures.tried.near, c.requires.shift) in
    found_under c.requires c.places_above-top.ensures c.if-top-self.false c.places_under-low.ensures
    (rw (minus _ few) (to_z-of_z (minus_fits _ few))) (c.shifted-2.ensures ∙ one-mul _) c.distance_under.ensures
