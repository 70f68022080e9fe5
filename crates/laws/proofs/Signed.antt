-- Numbers below zero in an i32, as differences of naturals: a local holds the bits of a number, and gives it back. Assumes nothing.
use mathlib.Core.Path.{◌≡◌, refl, sym, subst, ◌∙◌}
use Prim.Native.Nat.{ℕ, zero, suc, ◌+◌, ◌-◌, ◌*◌, ◌/◌, ◌^◌, ◌≤◌, ◌<◌}
use native.Mathlib.Nat.{add-zero}
use native.Mathlib.Omega.{arith}
use lib.IntN.{ℤ, pos, nat_abs, sub_ℕ, ◌+ℤ◌, ◌-ℤ◌, ◌*ℤ◌}
use lib.Signed.{mag, shr_z}
use mir.Facts.{to_z-of_z, to_z_pos}
use mir.Syntax.{w32}
use mir.Val.{SFits, to_z, of_z}
use Rattle.laws.proofs.Differences as differences
use Rattle.laws.proofs.Differences.{same, bounded, is_pos}

-- The number z is a - b.
pub record Is (z : ℤ) (a b : ℕ) : Type 0 where
  pub is : z ≡ sub_ℕ a b

-- It is any other difference with the same crossed sums.
pub also : {z : ℤ} {a b : ℕ} (c d : ℕ) → Is z a b → a + d ≡ c + b → Is z c d
also {a = a} {b = b} c d p e = record { is = p.is ∙ same a b c d e }

-- What is read from an i32 that z was written to.
abbrev pub read : ℤ → ℤ
read z = to_z w32 (of_z w32 z)

-- An i32 holds z, and gives a - b back.
pub record Held (z : ℤ) (a b : ℕ) : Type 0 where
  pub fits : SFits w32 z
  pub back : Is (read z) a b

-- The numbers a and b are near enough for an i32 to hold a - b.
pub record Apart (a b : ℕ) : Type 0 where
  pub above : a < b + 2 ^ 31
  pub under : b ≤ a + 2 ^ 31

-- They are where a - b is small.
pub small_apart : (a b : ℕ) → nat_abs (sub_ℕ a b) < 900 → Apart a b
small_apart a b = differences.cases (λ z. nat_abs z < 900 → Apart a b) a b (λ l h. omega arith) (λ l h. omega arith)

-- The limits hold of any number that is such a difference.
pub held : {z : ℤ} {a b : ℕ} → Is z a b → Apart a b → Held z a b
held {z} {a} {b} p apart =
    let fits : SFits w32 z =
    record { sfits = subst (λ (y : ℤ). mag y < 2 ^ 31) (sym p.is) (bounded (2 ^ 31) a b apart.above apart.under) } in
    record { fits = fits; back = record { is = to_z-of_z {w = w32} {z = z} fits ∙ p.is } }

-- A number that is held is read as it was written.
pub unchanged : {z : ℤ} {a b : ℕ} → Is z a b → Apart a b → read z ≡ z
unchanged p near = (held p near).back.is ∙ sym p.is

-- A natural number, cast.
pub natural : {n : ℕ} → n < 2 ^ 31 → Is (to_z w32 n) n 0
natural {n} small = record { is = to_z_pos w32 small ∙ is_pos n n 0 (add-zero n) }

-- An i32 holds a sum ..
pub sum : {y z : ℤ} {a b c d : ℕ} → Is y a b → Is z c d → Apart (a + c) (b + d) → Held (y +ℤ z) (a + c) (b + d)
sum {a = a} {b = b} {c = c} {d = d} p q = held (record { is = rw (p.is, q.is) (differences.add a b c d) })

-- .. a sum with a natural number ..
pub more : {y : ℤ} {a b : ℕ} (n : ℕ) → Is y a b → Apart (a + n) b → Held (y +ℤ pos n) (a + n) b
more {a = a} {b = b} n p = held (record { is = rw p.is (differences.more a b n) })

-- .. a difference with one ..
pub less : {y : ℤ} {a b : ℕ} (n : ℕ) → Is y a b → Apart a (b + n) → Held (y -ℤ pos n) a (b + n)
less {a = a} {b = b} n p = held (record { is = rw p.is (differences.less a b n) })

-- .. a difference ..
pub apart : {y z : ℤ} {a b c d : ℕ} → Is y a b → Is z c d → Apart (a + d) (b + c) → Held (y -ℤ z) (a + d) (b + c)
apart {a = a} {b = b} {c = c} {d = d} p q = held (record { is = rw (p.is, q.is, differences.minus c d) (differences.add a b d c) })

-- .. and a product with a natural number, wherever the two numbers that they come to are near enough.
pub scaled : {y : ℤ} {a b : ℕ} (n : ℕ) → Is y a b → Apart (a * n) (b * n) → Held (y *ℤ pos n) (a * n) (b * n)
scaled {a = a} {b = b} n p = held (record { is = rw p.is (differences.scaled a b n) })

-- A shift rounds down. Here b is a multiple of n, so that the quotient's second number is whole.
pub floored : {y : ℤ} {a b : ℕ} (n q : ℕ) → 0 < n → b ≡ q * n → Is y a b → Is (shr_z y n) (a / n) q
floored {a = a} {b = b} n q some whole p = record { is = rw (p.is, whole) (differences.floored a q n some) }

-- Where a is at least b, the number is a natural one.
pub at_least : {z : ℤ} {a b : ℕ} → Is z a b → b ≤ a → z ≡ pos (a - b)
at_least {z} {a} {b} p more = p.is ∙ sym (is_pos (a - b) a b (omega arith))

-- Minus n, as an i32 computes and holds it.
pub minus : (n : ℕ) → n < 2 ^ 31 → pos 0 -ℤ to_z w32 n ≡ sub_ℕ 0 n
minus n h = rw (to_z_pos w32 h) (below n)
  where
    below : (m : ℕ) → pos 0 -ℤ pos m ≡ sub_ℕ 0 m
    below zero = refl
    below (suc m) = refl

pub minus_fits : (n : ℕ) → n < 2 ^ 31 → SFits w32 (sub_ℕ 0 n)
minus_fits n h = record { sfits = bounded (2 ^ 31) 0 n (omega arith) (omega arith) }
