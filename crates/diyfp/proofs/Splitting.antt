-- A pattern split by masks and shifts into its biased exponent and significand, and the pair that these make. Assumes nothing.
use mathlib.Core.Path.{◌≡◌, refl, ap₂, ◌∙◌}
use Prim.Native.Nat.{ℕ, ◌+◌, ◌-◌, ◌/◌, ◌^◌, ◌<◌}
use native.Mathlib.Omega.{arith}
use lib.Bits.{bit_and, and_mask}
use lib.Dec.{eqb, eqb→eq}
use lib.IntN.{ℤ, pos, ◌+ℤ◌, ◌-ℤ◌}
use mir.Facts.{eqb_no}
use Rattle.laws.proofs.Branches.{either}
use Rattle.laws.proofs.Differences.{same}
use Rattle.laws.proofs.Signed.{read, Is, also, more, less}
use Rattle.rules.specs.Width.{Width, off}
use Rattle.rules.specs.Pattern.{Pair, all_ones, biased, significand, magnitude}
use Rattle.diyfp.specs.Pairs.{Stands}

-- Shifted down by S and under a mask of ones, a pattern is its biased exponent ..
pub exponent_field : (w : Width) (v s ones : ℕ) → s ≡ w.S → ones ≡ all_ones w → bit_and (v / 2 ^ s) ones ≡ biased w v
unfolding all_ones biased
exponent_field w v s ones at is = rw (at, is) (and_mask (v / 2 ^ w.S) (w.bits - 1 - w.S))

-- .. and under the bits below the hidden one its significand.
pub significand_field : (w : Width) (v h : ℕ) → h ≡ 2 ^ w.S → bit_and v (h - 1) ≡ significand w v
unfolding significand
significand_field w v h is = rw is (and_mask v w.S)

-- A number b, added to minus n in an i32, is b - n.
pub above_least : (n b : ℕ) → n < 2 ^ 31 → b < 2 ^ 31 → Is (read (read (pos 0 -ℤ pos n) +ℤ pos b)) b n
above_least n b low high =
    let least = less {y = pos 0} {a = 0} {b = 0} n (record { is = refl }) (omega arith) in
    also b n (more b (also 0 n least.back (omega arith)) (omega arith)).back (omega arith)

module _ (w : Width) (v b s : ℕ) (upper : b ≡ biased w v) (low : s ≡ significand w v) where
  -- With b not 0 the hidden bit is placed.
  pub normal : {h : ℕ} {e : ℤ} → h ≡ 2 ^ w.S → (b ≡ 0 → ⊥) → Is e b (w.bias + w.S) → Stands w (magnitude w v) (record { f = s + h; e = e })
  unfolding magnitude off
  normal {h} {e} hidden some p =
      either (λ (m : Pair). Stands w m (record { f = s + h; e = e })) (eqb (biased w v) 0) (λ t. absurd (some (upper ∙ eqb→eq (biased w v) 0 t)))
      (λ t.
      record {
        significand = ap₂ (λ (x y : ℕ). x + y) low hidden;
        exponent = p.is ∙ same b (w.bias + w.S) (biased w v + w.N) (off w) (omega (arith, upper));
      })

  -- With b = 0 it is not, and the exponent is that of b = 1.
  pub subnormal : {e : ℤ} → b ≡ 0 → Is e 1 (w.bias + w.S) → Stands w (magnitude w v) (record { f = s; e = e })
  unfolding magnitude off
  subnormal {e} none p =
      either (λ (m : Pair). Stands w m (record { f = s; e = e })) (eqb (biased w v) 0)
      (λ t. record { significand = low; exponent = p.is ∙ same 1 (w.bias + w.S) (1 + w.N) (off w) (omega arith) })
      (λ t. absurd (eqb_no {a = biased w v} {b = 0} t (omega (arith, upper))))
