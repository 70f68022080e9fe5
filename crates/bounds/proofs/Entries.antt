-- A table's entry bounds a decimal number from both sides, by significands of 64 bits with a power of two, and so bounds what it reads as. Assumes nothing.
use mathlib.Core.Logic.{⊎_elim}
use mathlib.Core.Path.{◌≡◌, sym, ap, ◌∙◌}
use Prim.Native.Nat.{ℕ, ◌+◌, ◌*◌, ◌/◌, ◌^◌, ◌≤◌, ◌<◌}
use native.Mathlib.Nat.{le_of_lt, le_of_mul-le-mul_right, mul-pos, mul-le-mul, mul-le-mul_left, mul-le-mul_right, mul_assoc, mul_comm, mul_left_comm}
use native.Mathlib.Nat.{div-add-mod', div-mul-le_self, mod-lt}
use native.Mathlib.Omega.{arith}
use lib.Pow.{pow_pos, pow-add, pow_mono}
use Rattle.laws.proofs.Branches.{which}
use Rattle.laws.proofs.Powers.{ten_pos}
use Rattle.rules.specs.Width.{Width}
use Rattle.rules.specs.Reading.{nearest}
use Rattle.theorems.proofs.Order.{nearest_mono}
use Rattle.theorems.proofs.Readable.{Readable}
use Rattle.tens.specs.Leading.{Leading, exponent}

-- ---- with the powers as letters: P is 10^342, I 10^i, D 10^down, U 10^up, X 10^d, A 2^z, B 2^1200, F 2^exponent, H 2^64 and G 2^e

-- The lower end: w is at most the digits a without their last d, and x at most the power.
under : (a w x m P I D U X A B F H G : ℕ) → 0 < P → 0 < A → I * D ≡ P * (U * X) → H * F ≡ G * A → x * F * P ≤ I * B → w * X ≤ a → m * H ≤ w * A * x →
    m * G * D ≤ a * U * B
under a w x m P I D U X A B F H G some-p some-a powers twos below kept product =
    let s1 = simp (mul_assoc, mul_comm, mul_left_comm) at (mul-le-mul_right (F * P * D) product) in
    let s2 = simp (mul_assoc, mul_comm, mul_left_comm) at (mul-le-mul_left (w * A * D) below) in
    let s3 = simp (mul_assoc, mul_comm, mul_left_comm) at (ap (λ (n : ℕ). w * A * B * n) powers) in
    let s4 = simp (mul_assoc, mul_comm, mul_left_comm) at (mul-le-mul_right (A * B * P * U) kept) in
    let s5 = simp (mul_assoc, mul_comm, mul_left_comm) at (ap (λ (n : ℕ). m * P * D * n) twos) in
    le_of_mul-le-mul_right {m = m * G * D} {n = a * U * B} {k = A * P} (simp (mul_assoc, mul_comm, mul_left_comm) (omega arith)) (mul-pos some-a some-p)

-- The upper end: the digits are at most j times 10^d, and the power is below x + 1.
over : (a j x m P I D U X A B F H G : ℕ) → 0 < P → 0 < A → I * D ≡ P * (U * X) → H * F ≡ G * A → I * B ≤ (x + 1) * F * P → a ≤ j * X → j * A * (x + 1) ≤ m * H →
    a * U * B ≤ m * G * D
over a j x m P I D U X A B F H G some-p some-a powers twos above kept product =
    let s1 = simp (mul_assoc, mul_comm, mul_left_comm) at (mul-le-mul_right (F * P * D) product) in
    let s2 = simp (mul_assoc, mul_comm, mul_left_comm) at (mul-le-mul_left (j * A * D) above) in
    let s3 = simp (mul_assoc, mul_comm, mul_left_comm) at (ap (λ (n : ℕ). j * A * B * n) powers) in
    let s4 = simp (mul_assoc, mul_comm, mul_left_comm) at (mul-le-mul_right (A * B * P * U) kept) in
    let s5 = simp (mul_assoc, mul_comm, mul_left_comm) at (ap (λ (n : ℕ). m * P * D * n) twos) in
    le_of_mul-le-mul_right {m = a * U * B} {n = m * G * D} {k = A * P} (simp (mul_assoc, mul_comm, mul_left_comm) (omega arith)) (mul-pos some-a some-p)

-- ---- the number a * 10^up / 10^down, with the entry x of 10^(up + d - down) and the shift z
module _ (w : Width) (r : Readable w) (a d up down i x z e : ℕ) (at : i + down ≡ 342 + (up + d)) (shift : e + z ≡ 64 + exponent i) (l : Leading i x) where
  powers : 10 ^ i * 10 ^ down ≡ 10 ^ 342 * (10 ^ up * 10 ^ d)
  powers = sym (pow-add 10 i down) ∙ ap (λ (n : ℕ). 10 ^ n) at ∙ pow-add 10 342 (up + d) ∙ ap (λ (n : ℕ). 10 ^ 342 * n) (pow-add 10 up d)

  twos : 2 ^ 64 * 2 ^ exponent i ≡ 2 ^ e * 2 ^ z
  twos = sym (pow-add 2 64 (exponent i)) ∙ ap (λ (n : ℕ). 2 ^ n) (sym shift) ∙ pow-add 2 e z

  -- What the lower end reads as is not above what the number reads as.
  pub at_least : (digits m : ℕ) → digits * 10 ^ d ≤ a → m * 2 ^ 64 ≤ digits * 2 ^ z * x →
      nearest w (m * 2 ^ e) (2 ^ 1200) ≤ nearest w (a * 10 ^ up) (10 ^ down)
  at_least digits m kept product =
      nearest_mono w r (m * 2 ^ e) (2 ^ 1200) (a * 10 ^ up) (10 ^ down) (pow_pos 1200) (ten_pos down)
      (under a digits x m (10 ^ 342) (10 ^ i) (10 ^ down) (10 ^ up) (10 ^ d) (2 ^ z) (2 ^ 1200) (2 ^ exponent i) (2 ^ 64) (2 ^ e) (ten_pos 342)
      (pow_pos z) powers twos l.below kept product)

  -- What the upper end reads as is not below it.
  pub at_most : (j m : ℕ) → a ≤ j * 10 ^ d → j * 2 ^ z * (x + 1) ≤ m * 2 ^ 64 →
      nearest w (a * 10 ^ up) (10 ^ down) ≤ nearest w (m * 2 ^ e) (2 ^ 1200)
  at_most j m kept product =
      nearest_mono w r (a * 10 ^ up) (10 ^ down) (m * 2 ^ e) (2 ^ 1200) (ten_pos down) (pow_pos 1200)
      (over a j x m (10 ^ 342) (10 ^ i) (10 ^ down) (10 ^ up) (10 ^ d) (2 ^ z) (2 ^ 1200) (2 ^ exponent i) (2 ^ 64) (2 ^ e) (ten_pos 342)
      (pow_pos z) powers twos (le_of_lt l.above) kept product)

-- ---- what the upper half m of a product leaves open
pub product_least : (f x m : ℕ) → m ≡ f * x / 2 ^ 64 → m * 2 ^ 64 ≤ f * x
product_least f x m is = rw is (div-mul-le_self (f * x) (2 ^ 64))

-- Where the digits are all there, two units.
pub product_most : (f x m : ℕ) → f < 2 ^ 64 → m ≡ f * x / 2 ^ 64 → f * (x + 1) ≤ (m + 2) * 2 ^ 64
product_most f x m fits is = omega (arith, div-add-mod' (f * x) (2 ^ 64), mod-lt (f * x) (pow_pos 64))

-- Where digits follow the first 19, eighteen: the shift z is then at most 4.
pub product_most_more : (digits z x m : ℕ) → digits * 2 ^ z < 2 ^ 64 → x < 2 ^ 64 → 10 ^ 18 ≤ digits → m ≡ digits * 2 ^ z * x / 2 ^ 64 →
    (digits + 1) * 2 ^ z * (x + 1) ≤ (m + 18) * 2 ^ 64
product_most_more digits z x m fits small long is =
    let shifted : 10 ^ 18 * 2 ^ z ≤ digits * 2 ^ z = mul-le-mul_right (2 ^ z) long in
    let next : x + 1 ≤ 2 ^ 64 = omega arith in
    let most : 2 ^ z * (x + 1) ≤ 16 * 2 ^ 64 = mul-le-mul (few z (omega arith)) next in
    omega (arith, product_most (digits * 2 ^ z) x m fits is)
  where
    few : (n : ℕ) → 2 ^ n < 19 → 2 ^ n ≤ 16
    few n h = ⊎_elim (λ (l : n < 5). pow_mono {i = n} {j = 4} (omega arith)) (λ (l : 5 ≤ n). absurd (omega (arith, pow_mono {i = 5} {j = n} l))) (which n 5)
