-- How two numbers stand to each other is how their multiples do. Assumes nothing.
use mathlib.Core.Path.{◌≡◌, ap, subst}
use Prim.Native.Nat.{ℕ, ◌+◌, ◌*◌, ◌^◌, ◌<◌}
use native.Mathlib.Nat.{mul-lt-mul_of_pos_right}
use native.Mathlib.Omega.{arith}
use lib.Pow.{pow-add, pow_pos}
use Rattle.limbs.specs.Stands.{Stands}
use Rattle.std.specs.declared.cmp.Ordering.{Ordering}
use Rattle.std.specs.declared.cmp.Ordering.TheVariants.{Less, Equal, Greater}

-- Equal numbers stand alike.
pub same : (o : Ordering) {x y u v : ℕ} → x ≡ u → y ≡ v → Stands o x y → Stands o u v
same o {x} {v = v} left right s = subst (λ (z : ℕ). Stands o z v) left (subst (λ (z : ℕ). Stands o x z) right s)

-- Multiples stand as the numbers do.
multiples : (o : Ordering) (x y n : ℕ) → 0 < n → Stands o x y → Stands o (x * n) (y * n)
multiples Less x y n some s = mul-lt-mul_of_pos_right s some
multiples Equal x y n some s = ap (λ (z : ℕ). z * n) s
multiples Greater x y n some s = mul-lt-mul_of_pos_right s some

-- The twos that both have change nothing.
pub with_twos : (o : Ordering) (x y s t up down common : ℕ) → s ≡ up + common → t ≡ down + common → Stands o (x * 2 ^ up) (y * 2 ^ down) →
    Stands o (x * 2 ^ s) (y * 2 ^ t)
with_twos o x y s t up down common left right stands =
    same o (twos x up left) (twos y down right) (multiples o (x * 2 ^ up) (y * 2 ^ down) (2 ^ common) (pow_pos common) stands)
  where
    twos : (z m : ℕ) {n : ℕ} → n ≡ m + common → z * 2 ^ m * 2 ^ common ≡ z * 2 ^ n
    twos z m e = rw (e, pow-add) (omega arith)
