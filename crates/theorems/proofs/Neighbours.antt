-- A pattern's neighbours, one pattern below and one above: how far their magnitudes are from its own. Assumes nothing.
use mathlib.Core.Logic.{◌⊎◌, inl, inr, ⊎_elim}
use mathlib.Core.Path.{◌≡◌, refl, sym, ap, ◌∙◌}
use Prim.Native.Nat.{ℕ, suc, ◌+◌, ◌-◌, ◌*◌, ◌/◌, ◌%◌, ◌^◌, ◌≤◌, ◌<◌}
use native.Mathlib.Nat.{div-add-mod', mod-eq_of_lt, mod-lt, mul-le-mul_right}
use native.Mathlib.Omega.{arith}
use lib.Arith.{digits_div, digits_mod}
use lib.Dec.{eqb, eqb→eq, T_not}
use lib.Ieee.Fits.{eq→eqb}
use lib.Pow.{pow-add, pow_mono, pow_pos}
use Rattle.laws.proofs.Branches.{either, which}
use Rattle.laws.proofs.Powers.{two_halves}
use Rattle.rules.specs.Width.{Width}
use Rattle.rules.specs.Pattern.{Pair, biased, all_ones, magnitude}
use Rattle.rules.specs.Boundaries.{below}
use Rattle.rules.specs.Reading.{infinity, worth}
use Rattle.rules.specs.Midpoints.{midpoint_below, midpoint_above}
use Rattle.theorems.proofs.Readable.{Readable}
use Rattle.theorems.proofs.Units.{units_of, placed}
use Rattle.theorems.proofs.Worth.{bare, at, bare_is, bare_rest, no_sign, worth_bare}

-- One more and one less, modulo M.
next_mod : (v M : ℕ) → 0 < M → suc (v % M) < M → suc v % M ≡ suc (v % M)
next_mod v M some fits = ap (λ (x : ℕ). x % M) (omega (arith, div-add-mod' v M)) ∙ digits_mod (v / M) fits

last_mod : (v M : ℕ) → 0 < M → 0 < v % M → (v - 1) % M ≡ v % M - 1
last_mod v M some above =
    let less : v % M - 1 < M = omega (arith, mod-lt v some) in
    ap (λ (x : ℕ). x % M) (omega (arith, div-add-mod' v M)) ∙ digits_mod (v / M) less

-- The places of a pattern and of the one below it, here k, q and j, p: a place down is gone only at a power of two.
place_below : (h k q j p : ℕ) → 0 < h → j * h + p + 1 ≡ k * h + q → p < 2 * h → (0 < k → h ≤ q) → (k ≤ j) ⊎ ((q ≡ h) × (k ≤ suc j))
place_below h k q j p some e fits hidden =
    ⊎_elim
    (λ less.
    let full : h ≤ q = hidden (omega arith) in
    let one : (j + 1) * h ≤ k * h = mul-le-mul_right h (omega arith) in
    ⊎_elim (λ two. let far : (j + 2) * h ≤ k * h = mul-le-mul_right h (omega arith) in absurd (omega arith))
    (λ near. inr (omega arith, near)) (which (suc j) k))
    (λ more. inl more) (which j k)

-- Twice a boundary n - 1, in units of z, lies between the sum of a magnitude n * z and one that is at least 2 * z less.
under_boundary : (n z last here : ℕ) → 0 < n → here ≡ n * z → last + 2 * z ≤ here → last + here ≤ 2 * ((n - 1) * z)
under_boundary n z last here some is gap =
    let e : n * z ≡ (n - 1 + 1) * z = ap (λ (x : ℕ). x * z) (omega arith) in
    omega arith

module _ (w : Width) (r : Readable w) (v : ℕ) where
  pub bare_next : bare w v < 2 ^ (w.bits - 1) - 1 → bare w (suc v) ≡ suc (bare w v)
  bare_next h =
      let e = bare_rest w r v in
      bare_rest w r (suc v) ∙ next_mod v (2 ^ (w.bits - 1)) (pow_pos (w.bits - 1)) (omega arith) ∙ ap suc (sym e)

  pub bare_last : 0 < bare w v → bare w (v - 1) ≡ bare w v - 1
  bare_last h =
      let e = bare_rest w r v in
      bare_rest w r (v - 1) ∙ last_mod v (2 ^ (w.bits - 1)) (pow_pos (w.bits - 1)) (omega arith) ∙ ap (λ (x : ℕ). x - 1) (sym e)

  -- A pattern whose field has room above it and the one above differ by one unit of the pattern's last place.
  pub worth_next : bare w v < 2 ^ (w.bits - 1) - 1 → worth w (suc v) ≡ worth w v + 2 ^ (magnitude w v).exp
  worth_next h =
      let a = at w v in
      let p = a.spot in
      rw (worth_bare w (suc v), bare_next h, p.next, worth_bare w v, p.units, ← a.exp_is, pow-add 2 p.k (w.N + 1)) (omega arith)

  -- A pattern that is not zero and the one below it differ by at least a unit of its last place, or half of one where f is the hidden bit.
  pub worth_last : 0 < (magnitude w v).f →
      (worth w (v - 1) + 2 ^ (magnitude w v).exp ≤ worth w v)
      ⊎ (((magnitude w v).f ≡ 2 ^ w.S) × (worth w (v - 1) + 2 ^ ((magnitude w v).exp - 1) ≤ worth w v))
  worth_last some =
      let a = at w v in
      let p = a.spot in
      let u = bare w v in
      let above : 0 < u = omega (arith, p.is, a.f_is) in
      let b = placed w.S (u - 1) in
      let up : suc (u - 1) ≡ u = omega arith in
      let next : units_of w.S u ≡ b.q * 2 ^ b.k + 2 ^ b.k = ap (units_of w.S) (sym up) ∙ b.next in
      let here = worth_bare w v in
      let last = worth_bare w (v - 1) ∙ ap (λ (x : ℕ). units_of w.S x * 2 ^ (w.N + 1)) (bare_last above) in
      let gap : worth w v ≡ worth w (v - 1) + 2 ^ (b.k + (w.N + 1)) =
      rw (here, last, next, b.units, pow-add 2 b.k (w.N + 1)) (omega arith) in
      ⊎_elim (λ whole. inl (omega (arith, pow_mono {i = (magnitude w v).exp} {j = b.k + (w.N + 1)} (omega (arith, a.exp_is)))))
      (λ half.
      inr
      (sym a.f_is ∙ half.0, omega (arith, pow_mono {i = (magnitude w v).exp - 1} {j = b.k + (w.N + 1)} (omega (arith, a.exp_is, half.1)))))
      (place_below (2 ^ w.S) p.k p.q b.k b.q (pow_pos w.S) (omega (arith, p.is, b.is)) b.fits p.hidden)

  here_is : worth w v ≡ (magnitude w v).f * 2 ^ (magnitude w v).exp
  unfolding worth
  here_is = refl

  -- The lower boundary of printing is no lower than the midpoint to the pattern below.
  pub below_midpoint : 0 < w.N → 0 < (magnitude w v).f →
      midpoint_below w v ≤ 2 * ((below w (magnitude w v)).f * 2 ^ (below w (magnitude w v)).exp)
  unfolding midpoint_below below
  below_midpoint n some =
      let m = magnitude w v in
      let two = two_halves m.exp (omega (arith, (at w v).exp_is)) in
      let four = two_halves (m.exp - 1) (omega (arith, (at w v).exp_is)) in
      let less : m.exp - 1 - 1 ≡ m.exp - 2 = omega arith in
      either (λ (a : Pair). worth w (v - 1) + worth w v ≤ 2 * (a.f * 2 ^ a.exp)) (eqb m.f (2 ^ w.S))
      (λ t.
      let quarter : 2 ^ (m.exp - 1) ≡ 2 * 2 ^ (m.exp - 2) = rw less at four in
      under_boundary (4 * m.f) (2 ^ (m.exp - 2)) (worth w (v - 1)) (worth w v) (omega arith) (here_is ∙ rw (two, quarter) (omega arith))
      (⊎_elim (λ whole. omega arith) (λ half. omega (arith, half.1)) (worth_last some)))
      (λ t.
      under_boundary (2 * m.f) (2 ^ (m.exp - 1)) (worth w (v - 1)) (worth w v) (omega arith) (here_is ∙ rw two (omega arith))
      (⊎_elim (λ whole. omega arith) (λ half. absurd (T_not (eqb m.f (2 ^ w.S)) t (eq→eqb half.0))) (worth_last some)))

  -- The upper boundary of printing is the midpoint to the pattern above.
  pub above_midpoint : 0 < w.N → bare w v < 2 ^ (w.bits - 1) - 1 →
      midpoint_above w v ≡ 2 * ((2 * (magnitude w v).f + 1) * 2 ^ ((magnitude w v).exp - 1))
  unfolding midpoint_above
  above_midpoint n h =
      let two = two_halves (magnitude w v).exp (omega (arith, (at w v).exp_is)) in
      rw (worth_next h, here_is, two) (omega arith)

-- Above the largest finite pattern, the infinity's pattern counts as one more step of the last size.
module _ (w : Width) (r : Readable w) (finite : 2 ≤ all_ones w) where
  -- A pattern with the largest finite exponent.
  last_exponent : (f : ℕ) → f < 2 ^ w.S → (magnitude w ((all_ones w - 1) * 2 ^ w.S + f)).exp ≡ all_ones w - 1 + w.N
  unfolding magnitude biased all_ones
  last_exponent f small =
      let b = all_ones w - 1 in
      let field : (b * 2 ^ w.S + f) / 2 ^ w.S % 2 ^ (w.bits - 1 - w.S) ≡ b = rw (digits_div b small) (mod-eq_of_lt (omega arith)) in
      either (λ (m : Pair). m.exp ≡ b + w.N) (eqb ((b * 2 ^ w.S + f) / 2 ^ w.S % 2 ^ (w.bits - 1 - w.S)) 0)
      (λ t. absurd (omega (arith, eqb→eq ((b * 2 ^ w.S + f) / 2 ^ w.S % 2 ^ (w.bits - 1 - w.S)) 0 t))) (λ t. ap (λ (x : ℕ). x + w.N) field)

  -- With it one pattern is a step of a fixed size below the next.
  last_step : (f : ℕ) → f < 2 ^ w.S →
      worth w (suc ((all_ones w - 1) * 2 ^ w.S + f)) ≡ worth w ((all_ones w - 1) * 2 ^ w.S + f) + 2 ^ (all_ones w - 1 + w.N)
  unfolding infinity
  last_step f small =
      let v = (all_ones w - 1) * 2 ^ w.S + f in
      let e : all_ones w * 2 ^ w.S ≡ (all_ones w - 1 + 1) * 2 ^ w.S = ap (λ (x : ℕ). x * 2 ^ w.S) (omega arith) in
      let plain = no_sign w r (suc v) (omega arith) in
      worth_next w r v (omega (arith, bare_is w r v (omega arith))) ∙ ap (λ (x : ℕ). worth w v + 2 ^ x) (last_exponent f small)

  pub equal_step : worth w (infinity w) + worth w (infinity w - 1 - 1) ≡ 2 * worth w (infinity w - 1)
  unfolding infinity
  equal_step =
      let h = 2 ^ w.S in
      let b = all_ones w - 1 in
      let two : h ≡ 2 * 2 ^ (w.S - 1) = two_halves w.S r.digits in
      let some = pow_pos (w.S - 1) in
      let e : all_ones w * h ≡ (b + 1) * h = ap (λ (x : ℕ). x * h) (omega arith) in
      let least = ap (worth w) {x = b * h + (h - 2)} {y = all_ones w * h - 1 - 1} (omega arith) in
      let most = ap (worth w) {x = b * h + (h - 1)} {y = all_ones w * h - 1} (omega arith) in
      let middle = ap (worth w) {x = suc (b * h + (h - 2))} {y = all_ones w * h - 1} (omega arith) in
      let beyond = ap (worth w) {x = suc (b * h + (h - 1))} {y = all_ones w * h} (omega arith) in
      omega (arith, last_step (h - 2) (omega arith), last_step (h - 1) (omega arith))
