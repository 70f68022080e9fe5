-- The count of decimal digits, told by the powers of ten around a number. Assumes nothing.
use mathlib.Core.Logic.{⊎_elim}
use mathlib.Core.Path.{◌≡◌, refl, ◌∙◌}
use Prim.Native.Nat.{ℕ, zero, suc, ◌+◌, ◌-◌, ◌/◌, ◌^◌, ◌≤◌, ◌<◌}
use native.Mathlib.Nat.{div-add-mod', mod-lt, mul-le-mul_right}
use native.Mathlib.Omega.{arith}
use lib.Pow.{pow-add}
use Rattle.laws.proofs.Branches.{which}
use Rattle.laws.proofs.Powers.{ten_pos}
use Rattle.rules.specs.Numbers.{count}
use Rattle.theorems.proofs.Counting.{count-above, count_least, count_pos, count_reaches}
use Rattle.places.specs.Places.{count_to_nine}

-- One digit below ten.
pub count_one : (n : ℕ) → n < 10 → count n ≡ 1
count_one n less = omega (arith, count_pos n, count_least n 0 less)

-- Between two powers of ten, one digit more than the lower has zeros.
pub count_is : (n j : ℕ) → 10 ^ j ≤ n → n < 10 ^ suc j → count n ≡ suc j
count_is n j reaches less = omega (arith, count_reaches n j reaches, count_least n j less)

-- Up to nine digits, the count itself.
pub to_nine : (n c : ℕ) → count n ≡ c → c ≤ 9 → c ≡ count_to_nine n
to_nine n c is few = omega arith

-- From nine digits on, nine.
pub nine : (n : ℕ) → 10 ^ 8 ≤ n → 9 ≡ count_to_nine n
nine n reaches = omega (arith, count_reaches n 8 reaches)

-- Below 10^9 no digit is left out.
pub all_counted : (n : ℕ) → n < 10 ^ 9 → count_to_nine n ≡ count n
all_counted n less = omega (arith, count_least n 8 less)

-- A number above zero reaches the power of ten below its count.
pub count-below : (v : ℕ) → 0 < v → 10 ^ (count v - 1) ≤ v
count-below v some = ⊎_elim (λ less. absurd (too_few (count v - 1) (count_pos v) refl less)) (λ reaches. reaches) (which v (10 ^ (count v - 1)))
  where
    too_few : (j : ℕ) → 0 < count v → j ≡ count v - 1 → v < 10 ^ j → ⊥
    too_few zero pos e less = omega arith
    too_few (suc j) pos e less = omega (arith, count_least v j less)

-- The last k digits are k more, where some stand before them.
pub count_front : (v k : ℕ) → 0 < v / 10 ^ k → count v ≡ count (v / 10 ^ k) + k
count_front v k some =
    let front = v / 10 ^ k in
    let last : suc (count front - 1 + k) ≡ count front + k = omega (arith, count_pos front) in
    let low = mul-le-mul_right (10 ^ k) (count-below front some) in
    let high = mul-le-mul_right (10 ^ k) (count-above front) in
    count_is v (count front - 1 + k) (rw pow-add (omega (arith, low, div-add-mod' v (10 ^ k))))
    (rw (last, pow-add) (omega (arith, high, div-add-mod' v (10 ^ k), mod-lt v (ten_pos k))))
    ∙ last
