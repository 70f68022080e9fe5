-- A significand that lies apart from every midpoint of a width, with what is left open above it. Assumes nothing.
use mathlib.Core.Logic.{⊎_elim}
use mathlib.Core.Path.{◌≡◌, refl, sym, ap, ◌∙◌}
use Prim.Native.Nat.{ℕ, ◌+◌, ◌-◌, ◌*◌, ◌/◌, ◌%◌, ◌^◌, ◌≤◌, ◌<◌}
use native.Mathlib.Nat.{div-add-mod', mod-lt, le_trans, mul_assoc, mul-pos, mul-le-mul_right, mul-lt-mul_of_pos_right}
use native.Mathlib.Omega.{arith}
use lib.Ieee.Nearest.{closest}
use lib.Pow.{pow_pos, pow-add, pow_mono}
use Rattle.laws.proofs.Branches.{which}
use Rattle.laws.proofs.Closest.{is_closest, one_closest}
use Rattle.laws.proofs.Powers.{two_halves}
use Rattle.laws.proofs.Zeros.{Fills}
use Rattle.rules.specs.Width.{Width}
use Rattle.rules.specs.Reading.{infinity, low, nearest}
use Rattle.theorems.proofs.Readable.{Readable}
use Rattle.theorems.proofs.Halfway.{midpoint, midpoint_least, below_midpoint, no_more}
use Rattle.closest.specs.declared.Target.{Target}
use Rattle.closest.specs.Targets.{Targets, Sized}
use Rattle.closest.proofs.Packing.{same_power, kept_least, kept_most, nearest_finite}

-- A number of 63 bits or 64, shifted by what it lacks.
pub shifted : (m : ℕ) → 2 ^ 62 ≤ m → m < 2 ^ 64 → Fills 64 m (1 - m / 2 ^ 63)
shifted m high fits =
    ⊎_elim (λ (less : m < 2 ^ 63). let one : 1 - m / 2 ^ 63 ≡ 1 = omega arith in rw one (record { top = omega arith; fits = omega arith }))
    (λ (full : 2 ^ 63 ≤ m). let none : 1 - m / 2 ^ 63 ≡ 0 = omega arith in rw none (record { top = omega arith; fits = omega arith }))
    (which m (2 ^ 63))

-- With its exponent less by as many, it is the same number.
unshifted : (m e s k : ℕ) → e + s ≡ k → m * 2 ^ s * 2 ^ e ≡ m * 2 ^ k
unshifted m e s k is = mul_assoc m (2 ^ s) (2 ^ e) ∙ ap (λ (p : ℕ). m * p) (sym (pow-add 2 s e) ∙ ap (λ (z : ℕ). 2 ^ z) (omega arith))

-- Half a place of a width's significands.
pub half_least : (f half : ℕ) → f ≤ 52 → half ≡ 2 ^ (62 - f) → 2 ^ 10 ≤ half
half_least f half few is = rw is (pow_mono {i = 10} {j = 62 - f} (omega arith))

pub half_most : (f half : ℕ) → half ≡ 2 ^ (62 - f) → half ≤ 2 ^ 62
half_most f half is = rw is (pow_mono {i = 62 - f} {j = 62} (omega arith))

-- ---- a number n, in places of two halves each

-- How far it lies beyond the midpoint of the place below, with what is spared.
abbrev beyond : ℕ → ℕ → ℕ → ℕ
beyond n half spare = n - (half - spare)

-- The place behind that one.
abbrev pub next_place : ℕ → ℕ → ℕ → ℕ
next_place n half spare = beyond n half spare / (2 * half) + 1

module _ (n half spare : ℕ) (some : 0 < half) (small : spare ≤ half) (room : half ≤ n) (clear : spare < beyond n half spare % (2 * half)) where
  behind_lower : (2 * (beyond n half spare / (2 * half)) + 1) * half < n
  behind_lower = omega (arith, div-add-mod' (beyond n half spare) (2 * half))

  -- It lies below the next midpoint, and so does what is spared above it ..
  before_upper : n + spare < (2 * next_place n half spare + 1) * half
  before_upper =
      let two : 0 < 2 * half = omega arith in
      omega (arith, div-add-mod' (beyond n half spare) (2 * half), mod-lt (beyond n half spare) two)

  -- .. and the place is the closest.
  next_closest : closest n (2 * half) ≡ next_place n half spare
  next_closest =
      let two : 0 < 2 * half = omega arith in
      one_closest two (is_closest n (2 * half) two) (record { up = omega (arith, before_upper); down = omega (arith, behind_lower) })

-- With the powers as letters: X is 2^x, B 2^1200, E 2^e, L the units of 1, and M the midpoint above.
in_units : (n q half X B E L M : ℕ) → X * B ≡ 2 * half * (E * L) → n < (2 * q + 1) * half → 0 < E * L → (2 * q + 1) * X ≤ M → 2 * (n * E * L) < M * B
in_units n q half X B E L M power less some above =
    omega (arith, mul-le-mul_right B above, ap (λ (z : ℕ). (2 * q + 1) * z) power, mul-lt-mul_of_pos_right less some)

-- ---- a significand n of 64 bits, which a target's width rounds to the place behind
module _ (t : Target) (sized : Sized t) (n half spare : ℕ) (high : 2 ^ 63 ≤ n) (fits : n < 2 ^ 64) (is : half ≡ 2 ^ (62 - t.fraction)) (small : spare ≤ 36)
    (clear : spare < beyond n half spare % (2 * half)) where
  whole : 2 ^ (63 - t.fraction) ≡ 2 * half
  whole =
      two_halves (63 - t.fraction) (omega (arith, sized.few)) ∙ ap (λ (z : ℕ). 2 * 2 ^ z) {x = 63 - t.fraction - 1} {y = 62 - t.fraction} (omega arith)
      ∙ ap (λ (z : ℕ). 2 * z) (sym is)

  least : 2 ^ 10 ≤ half
  least = half_least t.fraction half sized.few is

  most : half ≤ 2 ^ 62
  most = half_most t.fraction half is

  rounded : closest n (2 ^ (63 - t.fraction)) ≡ next_place n half spare
  rounded = ap (closest n) whole ∙ next_closest n half spare (omega (arith, least)) (omega (arith, least)) (omega (arith, most)) clear

  digits : t.fraction + (63 - t.fraction) ≡ 63
  digits = omega (arith, sized.few)

  place_least : 2 ^ t.fraction ≤ next_place n half spare
  place_least = rw (← rounded) (kept_least t.fraction (63 - t.fraction) n digits high)

  pub place_most : next_place n half spare ≤ 2 * 2 ^ t.fraction
  place_most = rw (← rounded) (kept_most t.fraction (63 - t.fraction) n digits fits (63 - t.fraction) (omega arith))

  -- ---- the number n * 2^e / 2^1200, with x in the exponent's field
  module _ {w : Width} (g : Targets t w) (r : Readable w) (e x : ℕ) (same : t.base + x ≡ e + (63 - t.fraction)) (few : x + 1 < t.ones) where
    -- It reads as the place ..
    reads_place : x * 2 ^ t.fraction + next_place n half spare ≡ nearest w (n * 2 ^ e) (2 ^ 1200)
    reads_place = ap (λ (q : ℕ). x * 2 ^ t.fraction + q) (sym rounded) ∙ nearest_finite g sized n e high fits x same few

    -- .. and what is spared above it reads as no later one.
    no_later : (j : ℕ) → j ≤ spare → nearest w ((n + j) * 2 ^ e) (2 ^ 1200) ≤ x * 2 ^ t.fraction + next_place n half spare
    no_later j less =
        let q = next_place n half spare in
        let p = x * 2 ^ t.fraction + q in
        let power : 2 ^ x * 2 ^ 1200 ≡ 2 * half * (2 ^ e * 2 ^ low w) =
        same_power x 1200 (63 - t.fraction) (e + low w) (omega (arith, g.base)) ∙ rw (whole, pow-add 2 e (low w)) refl in
        let above : (2 * q + 1) * 2 ^ x ≤ midpoint w p =
        midpoint_least w p x q (ap (λ (s : ℕ). x * 2 ^ s + q) (sym g.fraction)) (rw (← g.fraction) place_least) (rw (← g.fraction) place_most) in
        let below : n + j < (2 * q + 1) * half =
        omega (arith, before_upper n half spare (omega (arith, least)) (omega (arith, least)) (omega (arith, most)) clear) in
        ⊎_elim
        (λ (inside : p < infinity w).
        below_midpoint w r ((n + j) * 2 ^ e) (2 ^ 1200) p (pow_pos 1200) inside
        (in_units (n + j) q half (2 ^ x) (2 ^ 1200) (2 ^ e) (2 ^ low w) (midpoint w p) power below (mul-pos (pow_pos e) (pow_pos (low w))) above))
        (λ (last : infinity w ≤ p). le_trans (no_more w ((n + j) * 2 ^ e) (2 ^ 1200)) last) (which p (infinity w))

    -- So it is for a number m that was shifted by s, and for what is open above it.
    pub both_ends : (m far s k v : ℕ) → n ≡ m * 2 ^ s → e + s ≡ k → far * 2 ^ s ≤ spare → v ≡ x * 2 ^ t.fraction →
        (v + next_place n half spare ≡ nearest w (m * 2 ^ k) (2 ^ 1200)) × (nearest w ((m + far) * 2 ^ k) (2 ^ 1200) ≤ v + next_place n half spare)
    both_ends m far s k v full less near at =
        let upper : (n + far * 2 ^ s) * 2 ^ e ≡ (m + far) * 2 ^ k = ap (λ (z : ℕ). z * 2 ^ e) (omega (arith, full)) ∙ unshifted (m + far) e s k less in
        let lower : n * 2 ^ e ≡ m * 2 ^ k = ap (λ (z : ℕ). z * 2 ^ e) full ∙ unshifted m e s k less in
        rw (at, ← upper, ← lower) (reads_place, no_later (far * 2 ^ s) near)
