-- A signed number is told by its sign and by how far it is from zero. Assumes nothing.
use mathlib.Core.Bool.{true, false}
use mathlib.Core.Path.{◌≡◌, refl, ap, subst}
use mathlib.Core.List.{◌∷◌}
use Prim.Native.Nat.{ℕ, suc, ◌^◌, ◌<◌}
use native.Mathlib.Nat.{not-suc-le-zero, zero-add}
use native.Mathlib.Omega.{arith}
use lib.Dec.{T}
use lib.IntN.{ℤ, pos, negsuc, nat_abs, sub_ℕ, ◌-ℤ◌}
use lib.Signed.{lt_z, non_neg}
use mir.Facts.{to_z-of_z}
use mir.Syntax.{w32}
use mir.Val.{to_z, of_z}
use borrow.Author.Tests.{ltb-true}
use Rattle.laws.proofs.Differences.{is_negsuc}
use Rattle.rules.specs.Bytes as byte
use Rattle.rules.specs.Numbers.{plain}
use Rattle.rules.specs.Layout.{exponent}

-- An i32 holds a number from zero on.
pub held : (n : ℕ) → n < 2 ^ 31 → to_z w32 (of_z w32 (pos n)) ≡ pos n
held n h = to_z-of_z {w = w32} {z = pos n} (record { sfits = h })

-- The negative of a number below zero.
pub negated : (k : ℤ) → lt_z k (pos 0) ≡ true → pos 0 -ℤ k ≡ pos (nat_abs k)
negated (pos n) e = absurd (not-suc-le-zero (ltb-true n 0 e))
negated (negsuc n) e = ap pos (zero-add (suc n))

-- A number that is not below zero.
pub not_below : (k : ℤ) → lt_z k (pos 0) ≡ false → T (non_neg k)
not_below (pos n) e = tt
not_below (negsuc n) e = subst T e tt

-- The texts of an exponent below zero, and of another.
pub exponent-below : (k : ℤ) → lt_z k (pos 0) ≡ true → exponent k ≡ byte.minus ∷ plain (nat_abs k)
unfolding exponent
exponent-below (pos n) e = absurd (not-suc-le-zero (ltb-true n 0 e))
exponent-below (negsuc n) e = refl

pub exponent_upward : (k : ℤ) → lt_z k (pos 0) ≡ false → exponent k ≡ plain (nat_abs k)
unfolding exponent
exponent_upward (pos n) e = refl
exponent_upward (negsuc n) e = absurd (subst T e tt)

-- A number below zero is minus how far away it is.
pub is_minus : (k : ℤ) → lt_z k (pos 0) ≡ true → k ≡ sub_ℕ 0 (nat_abs k)
is_minus (pos n) e = absurd (not-suc-le-zero (ltb-true n 0 e))
is_minus (negsuc n) e = is_negsuc n 0 (suc n) (omega arith)

-- It is away from zero.
pub away : (k : ℤ) → lt_z k (pos 0) ≡ true → 0 < nat_abs k
away (pos n) e = absurd (not-suc-le-zero (ltb-true n 0 e))
away (negsuc n) e = omega arith
