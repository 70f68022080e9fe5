-- From a pattern with a sign come back the sign and the pattern without it. Assumes nothing.
use mathlib.Core.Bool.{Bool, true, false}
use mathlib.Core.Path.{◌≡◌, ◌∙◌}
use Prim.Native.Nat.{ℕ, zero, suc, ◌+◌, ◌-◌, ◌*◌, ◌/◌, ◌%◌, ◌^◌, ◌<◌}
use native.Mathlib.Nat.{div-add-mod', div-eq_of_lt, div-lt_iff_lt-mul, mod-eq_of_lt}
use native.Mathlib.Omega.{arith}
use lib.Arith.{digits_div, digits_mod}
use lib.Dec.{eqb}
use lib.Pow.{pow_pos}
use Rattle.laws.proofs.Powers.{two_halves}
use Rattle.rules.specs.Width.{Width}
use Rattle.rules.specs.Pattern.{negative}
use Rattle.rules.specs.Reading.{worth, with_sign}
use Rattle.theorems.proofs.Readable.{Readable}
use Rattle.theorems.proofs.Worth.{bare, bare_rest, worth_bare}

module _ (w : Width) (r : Readable w) (v : ℕ) (h : v < 2 ^ (w.bits - 1)) where
  one_sign : 2 ^ (w.bits - 1) + v ≡ 1 * 2 ^ (w.bits - 1) + v
  one_sign = omega arith

  -- A pattern with a sign has its bits.
  pub signed_bound : (s : Bool) → with_sign w s v < 2 ^ w.bits
  unfolding with_sign
  signed_bound true = omega (arith, two_halves w.bits (omega (arith, r.field)))
  signed_bound false = omega (arith, two_halves w.bits (omega (arith, r.field)))

  -- Its sign is the one that it was given.
  pub signed-negative : (s : Bool) → negative w (with_sign w s v) ≡ s
  unfolding with_sign negative
  signed-negative true = rw (one_sign, digits_div 1 h)
  signed-negative false = rw (div-eq_of_lt h)

  -- Without the sign it is what it was.
  pub signed_bare : (s : Bool) → bare w (with_sign w s v) ≡ v
  unfolding with_sign
  signed_bare true = bare_rest w r (2 ^ (w.bits - 1) + v) ∙ rw one_sign (digits_mod 1 h)
  signed_bare false = bare_rest w r v ∙ mod-eq_of_lt h

  -- And it is worth what it was.
  pub signed-worth : (s : Bool) → worth w (with_sign w s v) ≡ worth w v
  signed-worth s = rw (worth_bare w (with_sign w s v), worth_bare w v, signed_bare s, bare_rest w r v, mod-eq_of_lt h)

-- A pattern of the width is its sign and the rest.
pub rejoined : (w : Width) → Readable w → (v : ℕ) → v < 2 ^ w.bits → with_sign w (negative w v) (bare w v) ≡ v
unfolding negative with_sign
rejoined w r v bound =
    let M = 2 ^ (w.bits - 1) in
    let two : 2 ^ w.bits ≡ 2 * M = two_halves w.bits (omega (arith, r.field)) in
    rw (bare_rest w r v) (by_sign (v / M) ((div-lt_iff_lt-mul (pow_pos (w.bits - 1))).1 (omega arith)) (div-add-mod' v M))
  where
    by_sign : (t : ℕ) → t < 2 → t * 2 ^ (w.bits - 1) + v % 2 ^ (w.bits - 1) ≡ v → with_sign w (eqb (t % 2) 1) (v % 2 ^ (w.bits - 1)) ≡ v
    by_sign zero h e = omega arith
    by_sign (suc zero) h e = omega arith
    by_sign (suc (suc t)) h e = absurd (omega arith)
