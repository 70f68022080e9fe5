-- A quotient rounded to the nearest, ties to even, from twice that quotient rounded down. Assumes nothing.
use mathlib.Core.Logic.{◌⊎◌, ⊎_elim}
use mathlib.Core.Path.{◌≡◌, ap}
use Prim.Native.Nat.{ℕ, ◌+◌, ◌*◌, ◌/◌, ◌%◌, ◌≤◌, ◌<◌}
use native.Mathlib.Nat.{mod-lt, div-add-mod', mul-le-mul_left}
use native.Mathlib.Omega.{arith}
use lib.Ieee.Nearest.{closest}
use Rattle.laws.proofs.Branches.{which}
use Rattle.laws.proofs.Closest.{Closest, is_closest, one_closest}

-- What is added where the half is set: one, if something follows the half or the whole part is odd.
abbrev pub Upward : ℕ → ℕ → ℕ → Type 0
Upward m u up = ((m / u * u ≡ m → ⊥) × (up ≡ 1)) ⊎ ((m / u * u ≡ m) × (up ≡ m / u / 2 % 2))

module _ (m u up : ℕ) (U : 0 < u) (upward : Upward m u up) where
  twice : ℕ
  twice = m / u

  split : twice * u + m % u ≡ m
  unfolding twice
  split = div-add-mod' m u

  -- It is at most one.
  pub added : m / u % 2 * up ≤ 1
  added =
      let few : up ≤ 1 = ⊎_elim (λ p. omega (arith, p.1)) (λ p. omega (arith, p.1)) upward in
      omega (arith, mul-le-mul_left (m / u % 2) few)

  -- Nothing is added where the half is not set ..
  not_set : twice % 2 < 1 → Closest m (2 * u) (twice / 2 + twice % 2 * up)
  not_set none =
      let is : twice ≡ twice / 2 * 2 = omega arith in
      let same : twice / 2 + twice % 2 * up ≡ twice / 2 = omega (arith, ap (λ (x : ℕ). x * up) {x = twice % 2} {y = 0} (omega arith)) in
      rw same
      (record {
        up = omega (arith, split, ap (λ (x : ℕ). x * u) is, mod-lt m U);
        down = omega (arith, split, ap (λ (x : ℕ). x * u) is, mod-lt m U);
      })

  -- .. and `up` where it is.
  set : 1 ≤ twice % 2 → Closest m (2 * u) (twice / 2 + twice % 2 * up)
  unfolding twice
  set one =
      let is : twice ≡ twice / 2 * 2 + 1 = omega arith in
      let same : twice / 2 + twice % 2 * up ≡ twice / 2 + up = omega (arith, ap (λ (x : ℕ). x * up) {x = twice % 2} {y = 1} (omega arith)) in
      let parts = ap (λ (x : ℕ). x * u) is in
      rw same
      (⊎_elim
      (λ more.
      let follows : 0 < m % u = positive more.0 in
      rw more.1 (record { up = omega (arith, split, parts, mod-lt m U); down = omega (arith, split, parts, follows) }))
      (λ none.
      ⊎_elim
      (λ (even : twice / 2 % 2 < 1).
      let stays : up ≡ 0 = omega (arith, none.1) in
      rw stays (record { up = omega (arith, none.0, parts); down = omega (arith, none.0, parts) }))
      (λ (odd : 1 ≤ twice / 2 % 2).
      let rises : up ≡ 1 = omega (arith, none.1) in
      rw rises (record { up = omega (arith, none.0, parts); down = omega (arith, none.0, parts) }))
      (which (twice / 2 % 2) 1))
      upward)
    where
      positive : (twice * u ≡ m → ⊥) → 0 < m % u
      positive differ = ⊎_elim (λ none. absurd (differ (omega (arith, split)))) (λ some. some) (which (m % u) 1)

  -- That is the closest.
  pub rounded : m / u / 2 + m / u % 2 * up ≡ closest m (2 * u)
  unfolding twice
  rounded = let two : 0 < 2 * u = omega arith in one_closest two (⊎_elim not_set set (which (twice % 2) 1)) (is_closest m (2 * u) two)
