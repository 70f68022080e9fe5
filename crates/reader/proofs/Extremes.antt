-- Numbers that need no table: zero, and those whose power of ten is too small or too large for it. Assumes nothing.
use mathlib.Core.Bool.{Bool}
use mathlib.Core.Path.{◌≡◌, refl, ◌∙◌}
use Prim.Native.Nat.{ℕ, zero, suc, ◌+◌, ◌-◌, ◌*◌, ◌^◌, ◌≤◌, ◌<◌}
use native.Mathlib.Nat.{le_trans, pow-le-pow_right, mul-pos, mul-le-mul_left, mul-le-mul_right, mul-lt-mul_of_pos_right}
use native.Mathlib.Omega.{arith}
use lib.Dec.{lit<}
use lib.Pow.{pow-add}
use Rattle.laws.proofs.Powers.{ten_pos}
use Rattle.rules.specs.Width.{Width}
use Rattle.rules.specs.Reading.{infinity, low, nearest}
use Rattle.theorems.proofs.Halfway.{midpoint, below_midpoint, above_midpoint, no_more}
use Rattle.scan.specs.Kept.{Kept}
use Rattle.patterns.specs.Spanned.{Spanned}

-- ---- with the numbers as letters: n / D is the number, M a midpoint, L the units of 1, T the power of ten at an end of the table
beneath : (n D M L T K : ℕ) → 0 < K → 2 * L < M * T → n ≤ K → K * T ≤ D → 2 * (n * L) < M * D
beneath n D M L T K some least below far =
    omega (arith, mul-lt-mul_of_pos_right least some, mul-le-mul_left (2 * L) below, mul-le-mul_left M far)

beyond : (n D M L T : ℕ) → 0 < D → M < 2 * (T * L) → T * D ≤ n → M * D < 2 * (n * L)
beyond n D M L T some most above = omega (arith, mul-lt-mul_of_pos_right most some, mul-le-mul_left (2 * L) above)

some_midpoint : (M L T : ℕ) → 2 * L < M * T → 0 < M
some_midpoint zero L T least = absurd (omega arith)
some_midpoint (suc M) L T least = omega arith

-- The number a * 10^up / 10^down, of which the digits w are kept and d are not.
module _ (w : Width) (s : Spanned w) (a digits d up down place : ℕ) (more : Bool) (kept : Kept a digits d more) (at : place + down ≡ 10100 + (up + d)) where
  -- A power of ten below the table's first: the number is below 10^-324.
  pub reads_zero : place < 9758 → nearest w (a * 10 ^ up) (10 ^ down) ≡ 0
  reads_zero small =
      let K = 10 ^ (19 + (d + up)) in
      let digits-most : (digits + 1) * 10 ^ d ≤ 10 ^ 19 * 10 ^ d = mul-le-mul_right (10 ^ d) (omega (arith, kept.small)) in
      let whole : K ≡ 10 ^ 19 * 10 ^ d * 10 ^ up = pow-add 10 19 (d + up) ∙ rw (pow-add 10 d up) (omega arith) in
      let below : a * 10 ^ up ≤ K = rw whole (mul-le-mul_right (10 ^ up) (omega (arith, kept.high))) in
      let far : K * 10 ^ 324 ≤ 10 ^ down =
      rw (← pow-add 10 (19 + (d + up)) 324) (pow-le-pow_right (lit< tt) (omega arith)) in
      let none =
      below_midpoint w s.readable (a * 10 ^ up) (10 ^ down) 0 (ten_pos down) s.some
      (beneath (a * 10 ^ up) (10 ^ down) (midpoint w 0) (2 ^ low w) (10 ^ 324) K (ten_pos (19 + (d + up))) s.least below far) in
      omega arith

  -- A power of ten beyond the table's last: the number is at least 10^309.
  pub reads_infinity : 0 < digits → 10408 < place → nearest w (a * 10 ^ up) (10 ^ down) ≡ infinity w
  reads_infinity some large =
      let least : 10 ^ d ≤ a = omega (arith, kept.low, mul-le-mul_right (10 ^ d) some) in
      let far : 10 ^ 309 * 10 ^ down ≤ 10 ^ d * 10 ^ up =
      rw (← pow-add 10 309 down, ← pow-add 10 d up) (pow-le-pow_right (lit< tt) (omega arith)) in
      let above : 10 ^ 309 * 10 ^ down ≤ a * 10 ^ up = le_trans far (mul-le-mul_right (10 ^ up) least) in
      let all =
      above_midpoint w s.readable (a * 10 ^ up) (10 ^ down) (infinity w - 1) (ten_pos down) (omega (arith, s.some))
      (beyond (a * 10 ^ up) (10 ^ down) (midpoint w (infinity w - 1)) (2 ^ low w) (10 ^ 309) (ten_pos down) s.most above) in
      omega (arith, no_more w (a * 10 ^ up) (10 ^ down), s.some)

-- Zero, whatever its power.
pub zero_reads : (w : Width) → Spanned w → (a d up down : ℕ) (more : Bool) → Kept a 0 d more → nearest w (a * 10 ^ up) (10 ^ down) ≡ 0
zero_reads w s a d up down more kept =
    let none : d ≡ 0 = all_kept d kept.full in
    let is : a ≡ 0 = let most = rw none at kept.high in omega (arith, most) in
    let least =
    below_midpoint w s.readable (a * 10 ^ up) (10 ^ down) 0 (ten_pos down) s.some
    (rw is (omega (arith, mul-pos (some_midpoint (midpoint w 0) (2 ^ low w) (10 ^ 324) s.least) (ten_pos down)))) in
    omega arith
  where
    all_kept : (n : ℕ) → (0 < n → 10 ^ 18 ≤ 0) → n ≡ 0
    all_kept zero h = refl
    all_kept (suc n) h = absurd (omega (arith, h (omega arith)))
