-- A pattern's worth is its units times a constant, and so is how far it is from a fraction. Assumes nothing.
use mathlib.Core.Path.{◌≡◌, refl, sym, ap, ◌∙◌}
use mathlib.Core.Logic.{⊎_elim}
use Prim.Native.Nat.{ℕ, suc, ◌+◌, ◌-◌, ◌*◌, ◌%◌, ◌^◌, ◌≤◌, ◌<◌}
use native.Mathlib.Nat.{mod-lt, mod-eq_of_lt, pos_of_ne-zero, mul_assoc, mul-add, mul-sub}
use native.Mathlib.Omega.{arith}
use lib.Dec.{eqb, eqb→eq, T_not}
use lib.Ieee.Fits.{eq→eqb}
use lib.Pow.{pow_pos, pow-add, mod-pow-add, high_ones}
use Rattle.laws.proofs.Branches.{either, which}
use Rattle.laws.proofs.Powers.{monomials}
use Rattle.rules.specs.Width.{Width, off}
use Rattle.rules.specs.Pattern.{Pair, biased, significand, all_ones, magnitude}
use Rattle.rules.specs.Reading.{infinity, low, worth, apart, miss}
use Rattle.theorems.proofs.Readable.{Readable}
use Rattle.theorems.proofs.Units.{units_of, Placed, place}

-- A significand is below the hidden bit.
pub significand_small : (w : Width) (v : ℕ) → significand w v < 2 ^ w.S
unfolding significand
significand_small w v = mod-lt v (pow_pos w.S)

-- A pattern without its sign.
unfoldable pub bare : Width → ℕ → ℕ
bare w v = biased w v * 2 ^ w.S + significand w v

-- Where the magnitude m of the pattern v stands in units: its f is exp - (N + 1) places up.
pub record At (w : Width) (v : ℕ) (m : Pair) : Type 0 where
  pub spot : Placed w.S (bare w v)
  pub f_is : spot.q ≡ m.f
  pub exp_is : spot.k + (w.N + 1) ≡ m.exp

module _ (w : Width) (v : ℕ) where
  pub at : At w v (magnitude w v)
  unfolding magnitude bare place
  at =
      either (At w v) (eqb (biased w v) 0)
      (λ t.
      let b : biased w v ≡ 0 = eqb→eq (biased w v) 0 t in
      record {
        spot = place w.S 0 (significand w v) (bare w v) (rw b (omega arith)) (omega (arith, small)) (λ h. absurd (omega arith));
        f_is = refl;
        exp_is = omega arith;
      })
      (λ t.
      let b : 0 < biased w v = pos_of_ne-zero (λ e. T_not (eqb (biased w v) 0) t (eq→eqb e)) in
      let k = biased w v - 1 in
      let e : biased w v ≡ suc k = omega arith in
      record {
        spot =
            place w.S k (significand w v + 2 ^ w.S) (bare w v) (omega (arith, ap (λ (x : ℕ). x * 2 ^ w.S) e)) (omega (arith, small))
            (λ h. omega arith);
        f_is = refl;
        exp_is = omega arith;
      })
    where
      small : significand w v < 2 ^ w.S
      small = significand_small w v

  -- A magnitude is zero where the pattern without its sign is, and nowhere else.
  pub bare_zero : (magnitude w v).f ≡ 0 → bare w v ≡ 0
  bare_zero none =
      let s = at.spot in
      ⊎_elim (λ up. absurd (omega (arith, s.hidden up, at.f_is, pow_pos w.S)))
      (λ low. let k : s.k ≡ 0 = omega arith in omega (arith, s.is, at.f_is, ap (λ (x : ℕ). x * 2 ^ w.S) k)) (which 0 s.k)

  pub zero_bare : bare w v ≡ 0 → (magnitude w v).f ≡ 0
  zero_bare none = omega (arith, at.spot.is, at.f_is)

  -- What a pattern is worth, as a number over 2^off, is its units times 2^(N + 1).
  pub worth_bare : worth w v ≡ units_of w.S (bare w v) * 2 ^ (w.N + 1)
  unfolding worth
  worth_bare =
      let p = at.spot in
      rw (← at.f_is, ← at.exp_is, pow-add 2 p.k (w.N + 1), p.units) (sym (mul_assoc p.q (2 ^ p.k) (2 ^ (w.N + 1))))

module _ (w : Width) (r : Readable w) where
  -- The bits below the sign are the exponent's field and the significand.
  pub split_bits : w.bits - 1 - w.S + w.S ≡ w.bits - 1
  split_bits = omega (arith, r.field)

  -- Up to the infinity a pattern has no sign.
  pub no_sign : (v : ℕ) → v ≤ infinity w → v < 2 ^ (w.bits - 1)
  unfolding infinity all_ones
  no_sign v h =
      let b : 2 ^ (w.bits - 1 - w.S + w.S) ≡ 2 ^ (w.bits - 1) = ap (λ (x : ℕ). 2 ^ x) split_bits in
      omega (arith, high_ones (w.bits - 1 - w.S) w.S, pow_pos w.S, pow_pos (w.bits - 1))

  -- Without its sign a pattern is what lies below the sign's weight.
  pub bare_rest : (v : ℕ) → bare w v ≡ v % 2 ^ (w.bits - 1)
  unfolding biased significand bare
  bare_rest v = sym (rw split_bits at (mod-pow-add v (w.bits - 1 - w.S) w.S))

  -- A pattern that has no sign is itself.
  pub bare_is : (v : ℕ) → v < 2 ^ (w.bits - 1) → bare w v ≡ v
  bare_is v h = bare_rest v ∙ mod-eq_of_lt h

  -- Up to the infinity a pattern's worth is its own units times 2^(N + 1).
  pub worth_units : (v : ℕ) → v ≤ infinity w → worth w v ≡ units_of w.S v * 2 ^ (w.N + 1)
  worth_units v h = rw (bare_is v (no_sign v h)) at (worth_bare w v)

  -- A whole is 2^low units, and 2^off is that times 2^(N + 1).
  pub off_units : 2 ^ off w ≡ 2 ^ low w * 2 ^ (w.N + 1)
  unfolding off low
  off_units =
      let e : w.bias + w.S + w.N ≡ w.bias + w.S - 1 + (w.N + 1) = omega (arith, r.digits) in
      rw e (pow-add 2 (w.bias + w.S - 1) (w.N + 1))

  -- How far a fraction is from a pattern is so many units times 2^(N + 1).
  pub miss_units : (n d v : ℕ) → v ≤ infinity w → miss w n d v ≡ 2 ^ (w.N + 1) * apart (n * 2 ^ low w) (units_of w.S v * d)
  unfolding miss apart
  miss_units n d v h = rw (off_units, worth_units v h) (simp (mul-add, mul-sub, monomials))
