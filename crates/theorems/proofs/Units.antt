-- A pattern without a sign is a number of units, the smallest positive magnitude, and the units rise with it. Assumes nothing.
use mathlib.Core.Path.{◌≡◌, refl, ap, ◌∙◌}
use mathlib.Core.Logic.{⊎_elim}
use Prim.Native.Nat.{ℕ, zero, suc, ◌+◌, ◌-◌, ◌*◌, ◌/◌, ◌%◌, ◌^◌, ◌≤◌, ◌<◌}
use native.Mathlib.Nat.{mod-lt, div-add-mod', le_of_lt, eq-or-lt_of_le, pow-succ'}
use native.Mathlib.Omega.{arith}
use lib.Arith.{digits_div}
use lib.Pow.{pow_pos}
use Rattle.laws.proofs.Branches.{which}

-- A pattern's magnitude in units. The infinity counts as the next number would.
unfoldable pub units_of : ℕ → ℕ → ℕ
units_of s v = let k = v / 2 ^ s - 1 in (v - k * 2 ^ s) * 2 ^ k

module _ (s v : ℕ) where
  -- A pattern with the exponent's field b.
  field_units : (b f k q : ℕ) → f < 2 ^ s → b * 2 ^ s + f ≡ v → b - 1 ≡ k → k * 2 ^ s + q ≡ v → units_of s v ≡ q * 2 ^ k
  unfolding units_of
  field_units b f k q h e up is =
      let place : v / 2 ^ s - 1 ≡ k = rw (← e, digits_div b h) up in
      rw place (ap (λ (z : ℕ). z * 2 ^ k) (omega arith))

  -- A pattern k * 2^s + q has q units k places up, where q has the hidden bit or k is 0. A carry makes q twice the hidden bit.
  pub units_at : (k q : ℕ) → k * 2 ^ s + q ≡ v → q ≤ 2 * 2 ^ s → (0 < k → 2 ^ s ≤ q) → units_of s v ≡ q * 2 ^ k
  units_at k q is fits hidden =
      ⊎_elim (λ l. below k is hidden l) (λ m. ⊎_elim carried (inside m) (eq-or-lt_of_le fits)) (which q (2 ^ s))
    where
      below : (k : ℕ) → k * 2 ^ s + q ≡ v → (0 < k → 2 ^ s ≤ q) → q < 2 ^ s → units_of s v ≡ q * 2 ^ k
      below zero e h l = field_units 0 q 0 q l e refl e
      below (suc k) e h l = absurd (omega (arith, h (omega arith)))

      inside : 2 ^ s ≤ q → q < 2 * 2 ^ s → units_of s v ≡ q * 2 ^ k
      inside m l = field_units (suc k) (q - 2 ^ s) k q (omega arith) (omega arith) (omega arith) is

      carried : q ≡ 2 * 2 ^ s → units_of s v ≡ q * 2 ^ k
      carried e =
          field_units (suc (suc k)) 0 (suc k) (2 ^ s) (pow_pos s) (omega arith) (omega arith) (omega arith)
          ∙ rw (e, pow-succ' 2 k) (omega arith)

-- A pattern's place k and significand q: the next pattern is one step of 2^k units above it.
pub record Placed (s v : ℕ) : Type 0 where
  pub k : ℕ
  pub q : ℕ
  pub is : k * 2 ^ s + q ≡ v
  pub fits : q < 2 * 2 ^ s
  pub hidden : 0 < k → 2 ^ s ≤ q
  pub units : units_of s v ≡ q * 2 ^ k
  pub next : units_of s (suc v) ≡ q * 2 ^ k + 2 ^ k

module _ (s : ℕ) where
  -- The place of k * 2^s + q, where q has the hidden bit or k is 0.
  unfoldable pub place : (k q v : ℕ) → k * 2 ^ s + q ≡ v → q < 2 * 2 ^ s → (0 < k → 2 ^ s ≤ q) → Placed s v
  place k q v e l h =
      record {
        k = k;
        q = q;
        is = e;
        fits = l;
        hidden = h;
        units = units_at s v k q e (le_of_lt l) h;
        next = units_at s (suc v) k (suc q) (omega arith) l (λ z. omega (arith, h z)) ∙ omega arith;
      }

  -- Every pattern has a place.
  pub placed : (v : ℕ) → Placed s v
  placed v = parts (v / 2 ^ s) (v % 2 ^ s) (div-add-mod' v (2 ^ s)) (mod-lt v (pow_pos s))
    where
      parts : (b f : ℕ) → b * 2 ^ s + f ≡ v → f < 2 ^ s → Placed s v
      parts zero f e l = place 0 f v e (omega arith) (λ h. absurd (omega arith))
      parts (suc k) f e l = place k (2 ^ s + f) v (omega arith) (omega arith) (λ h. omega arith)

  -- The units rise with the pattern.
  pub units_rise : (v : ℕ) → units_of s v < units_of s (suc v)
  units_rise v = let p = placed v in omega (arith, pow_pos p.k)
