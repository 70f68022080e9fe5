-- The midpoint above a pattern, by the pattern's exponent field and its other bits, at a width and by a target's numbers. Assumes nothing.
use mathlib.Core.Path.{◌≡◌, sym, ap}
use Prim.Native.Nat.{ℕ, suc, ◌+◌, ◌-◌, ◌*◌, ◌/◌, ◌%◌, ◌^◌, ◌<◌}
use native.Mathlib.Nat.{div-add-mod', div-lt_iff_lt-mul, mod-lt}
use native.Mathlib.Omega.{arith}
use lib.Dec.{lit≤}
use lib.Pow.{pow_pos}
use Rattle.rules.specs.Width.{Width}
use Rattle.theorems.proofs.Halfway.{midpoint, midpoint_at}
use Rattle.closest.specs.declared.Target.{Target}
use Rattle.closest.specs.Targets.{Sized}
use Rattle.settle.specs.Settles.{Middle}

module _ (w : Width) (p : ℕ) where
  parts : p / 2 ^ w.S * 2 ^ w.S + p % 2 ^ w.S ≡ p
  parts = div-add-mod' p (2 ^ w.S)

  rest : p % 2 ^ w.S < 2 ^ w.S
  rest = mod-lt p (pow_pos w.S)

  -- With the exponent field 0.
  pub subnormal_midpoint : p / 2 ^ w.S ≡ 0 → midpoint w p ≡ (2 * p + 1) * 2 ^ 0
  subnormal_midpoint none =
      let same : p % 2 ^ w.S ≡ p = let e = rw none at parts in omega (arith, e) in
      midpoint_at w p 0 p (omega arith) (omega (arith, rest)) (λ h. absurd (omega arith))

  -- With another.
  pub normal_midpoint : 0 < p / 2 ^ w.S → midpoint w p ≡ (2 * (2 ^ w.S + p % 2 ^ w.S) + 1) * 2 ^ (p / 2 ^ w.S - 1)
  normal_midpoint some =
      let b = p / 2 ^ w.S in
      let field : b ≡ suc (b - 1) = omega arith in
      midpoint_at w p (b - 1) (2 ^ w.S + p % 2 ^ w.S) (omega (arith, parts, ap (λ (n : ℕ). n * 2 ^ w.S) field)) (omega (arith, rest)) (λ h. omega arith)

-- ---- the same by a target's numbers, with its hidden bit h
module _ (t : Target) (sized : Sized t) (p h : ℕ) (is : h ≡ 2 ^ t.fraction) (inside : p < t.ones * 2 ^ t.fraction) where
  -- The exponent field is one of the width.
  pub field_few : p / h < 2047
  field_few = rw is (omega (arith, sized.most, (div-lt_iff_lt-mul (pow_pos t.fraction)).1 inside))

  pub with_field_0 : p / h ≡ 0 → Middle t p (2 * p + 1) 0
  with_field_0 none =
      record {
        is = λ w at. let s : p / 2 ^ w.S ≡ 0 = rw (← at.fraction, ← is) none in subnormal_midpoint w p s;
        few = lit≤ tt;
      }

  pub with_field : 0 < p / h → Middle t p (2 * (h + p % h) + 1) (p / h - 1)
  with_field some =
      record {
        is = λ w at.
            let same : 2 ^ w.S ≡ h = rw (← at.fraction) (sym is) in
            let s : 0 < p / 2 ^ w.S = rw same some in
            rw same at (normal_midpoint w p s);
        few = omega (arith, field_few);
      }
