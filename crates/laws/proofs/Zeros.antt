-- A number shifted up by its leading zeros. Assumes nothing.
use mathlib.Core.Path.{◌≡◌, ap, ◌∙◌}
use Prim.Native.Nat.{ℕ, suc, ◌+◌, ◌-◌, ◌*◌, ◌^◌, ◌≤◌, ◌<◌}
use native.Mathlib.Nat.{mul-le-mul_right, mul-lt-mul_of_pos_right}
use native.Mathlib.Omega.{arith}
use lib.Count.{count_leading_zeros, leading_le, leading_top}
use lib.IntN.{pos}
use lib.Pow.{pow_pos, pow-add}
use mir.Syntax.{w32, w64}
use mir.Val.{Fits, SFits}

-- Of n bits, a shift of f by z sets the highest, and loses none.
pub record Fills (n f z : ℕ) : Type 0 where
  pub top : 2 ^ (n - 1) ≤ f * 2 ^ z
  pub fits : f * 2 ^ z < 2 ^ n

-- A shift by the number of leading zeros does.
pub fills : (n f : ℕ) → 0 < f → f < 2 ^ n → Fills n f (count_leading_zeros n f)
fills n f some fits =
    let z = count_leading_zeros n f in
    let t = leading_top n f some fits in
    let j : ℕ = t.0 in
    let all : z + suc j ≡ n = t.1 in
    let half : 2 ^ (n - 1) ≡ 2 ^ j * 2 ^ z = ap (λ (x : ℕ). 2 ^ x) (omega (arith, all)) ∙ pow-add 2 j z in
    let whole : 2 ^ n ≡ 2 ^ suc j * 2 ^ z = ap (λ (x : ℕ). 2 ^ x) (omega (arith, all)) ∙ pow-add 2 (suc j) z in
    record { top = rw half (mul-le-mul_right (2 ^ z) t.2); fits = rw whole (mul-lt-mul_of_pos_right t.3 (pow_pos z)) }

-- That number is small: with a bit set, of n bits fewer than n are zeros ..
pub few_zeros : (n f : ℕ) → 0 < f → f < 2 ^ n → count_leading_zeros n f < n
few_zeros n f some fits = let t = leading_top n f some fits in omega (arith, t.1)

-- .. a u64 holds it ..
pub fits_u64 : (n f : ℕ) → n ≤ 64 → Fits w64 (count_leading_zeros n f)
fits_u64 n f few = record { fits = omega (arith, leading_le n f) }

-- .. and an i32.
pub fits_i32 : (n f : ℕ) → n ≤ 64 → SFits w32 (pos (count_leading_zeros n f))
fits_i32 n f few = record { sfits = omega (arith, leading_le n f) }
