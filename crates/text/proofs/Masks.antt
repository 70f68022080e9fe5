-- Tests on a pattern's bits by masks, as the rules have them by remainders. Assumes nothing.
use mathlib.Core.Bool.{Bool, true, false}
use mathlib.Core.Path.{◌≡◌, refl, sym, ap, ◌∙◌}
use Prim.Native.Nat.{ℕ, ◌-◌, ◌*◌, ◌%◌, ◌^◌, ◌<◌}
use native.Mathlib.Nat.{mod-eq_of_lt, one-mul}
use native.Mathlib.Omega.{arith}
use lib.Bits.{bit_and, and_mask}
use lib.Dec.{T, eqb, eqb→eq}
use lib.Ieee.Fits.{eq→eqb}
use Rattle.std.proofs.lemmas.Nat.{pow_below}
use Rattle.rules.specs.Width.{Width}
use Rattle.rules.specs.Pattern.{magnitude}
use Rattle.theorems.proofs.Readable.{Readable}
use Rattle.theorems.proofs.Worth.{bare_rest, bare_zero, zero_bare}

-- A mask of k ones keeps what the remainder by 2^k is.
pub masked : (v k n : ℕ) → eqb (bit_and v (2 ^ k - 1)) n ≡ eqb (v % 2 ^ k) n
masked v k n = ap (λ (x : ℕ). eqb x n) (and_mask v k)

-- A shift of one bit by k in a word of 64 leaves the bits below it to a mask.
pub ones_below : (k n : ℕ) → k ≡ n → n < 64 → 1 * 2 ^ k % 2 ^ 64 - 1 ≡ 2 ^ n - 1
ones_below k n is small =
    let less : 1 * 2 ^ n < 2 ^ 64 = omega (arith, pow_below n 64 small) in
    rw is (ap (λ (x : ℕ). x - 1) (mod-eq_of_lt less ∙ one-mul (2 ^ n)))

-- Two numbers that are zero together pass the same test.
zero_together : (a b : ℕ) → (a ≡ 0 → b ≡ 0) → (b ≡ 0 → a ≡ 0) → eqb a 0 ≡ eqb b 0
zero_together a b to from = by_tests (eqb a 0) (eqb b 0) (λ t. eq→eqb (to (eqb→eq a 0 t))) (λ t. eq→eqb (from (eqb→eq b 0 t)))
  where
    by_tests : (s t : Bool) → (T s → T t) → (T t → T s) → s ≡ t
    by_tests true true there back = refl
    by_tests true false there back = absurd (there tt)
    by_tests false true there back = absurd (back tt)
    by_tests false false there back = refl

-- A magnitude is zero where all bits but the sign are.
pub magnitude_zero : (w : Width) → Readable w → (v : ℕ) → eqb (v % 2 ^ (w.bits - 1)) 0 ≡ eqb (magnitude w v).f 0
magnitude_zero w r v =
    zero_together (v % 2 ^ (w.bits - 1)) (magnitude w v).f (λ e. zero_bare w v (bare_rest w r v ∙ e)) (λ e. sym (bare_rest w r v) ∙ bare_zero w v e)
