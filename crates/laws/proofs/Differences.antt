-- Whole numbers as differences of naturals: `sub_ℕ a b` is a - b. Each sum, order and equation of differences becomes one of naturals,
-- which `omega` reads. Assumes nothing.
use mathlib.Core.Bool.{Bool, true, false, not, cond}
use mathlib.Core.Path.{◌≡◌, sym, ap, ◌∙◌}
use Prim.Native.Nat.{ℕ, zero, suc, ◌+◌, ◌-◌, ◌*◌, ◌/◌, ◌≤◌, ◌<◌}
use native.Mathlib.Nat.{add-zero, add-mul, add-mul-div_right, div-eq_of_lt-le, div-lt_iff_lt-mul, div-mul-le_self, lt-div-mul-add}
use native.Mathlib.Omega.{arith}
use lib.Dec.{T, ltb, ltb→lt, nltb→le}
use lib.IntN.{ℤ, pos, negsuc, neg_ℤ, sub_ℕ, ◌+ℤ◌, ◌-ℤ◌, ◌*ℤ◌, nat_abs}
use lib.Signed.{mag, shr_z}

cond_cases {ℓ} : {A : Type 0} (Q : A → Type ℓ) {x y : A} (t : Bool) → (T t → Q x) → (T (not t) → Q y) → Q (cond t x y)
cond_cases Q true less more = less tt
cond_cases Q false less more = more tt

-- A difference is below zero, or it is not.
pub cases {ℓ} : (Q : ℤ → Type ℓ) (a b : ℕ) → (a < b → Q (negsuc (b - suc a))) → (b ≤ a → Q (pos (a - b))) → Q (sub_ℕ a b)
cases Q a b less more = cond_cases Q (ltb a b) (λ t. less (ltb→lt a b t)) (λ t. more (nltb→le a b t))

pub is_pos : (n a b : ℕ) → n + b ≡ a → pos n ≡ sub_ℕ a b
is_pos n a b e = cases (λ z. pos n ≡ z) a b (λ l. absurd (omega arith)) (λ l. ap pos (omega arith))

pub is_negsuc : (n a b : ℕ) → suc n + a ≡ b → negsuc n ≡ sub_ℕ a b
is_negsuc n a b e = cases (λ z. negsuc n ≡ z) a b (λ l. ap negsuc (omega arith)) (λ l. absurd (omega arith))

-- Two differences are equal where the crossed sums are.
pub same : (a b c d : ℕ) → a + d ≡ c + b → sub_ℕ a b ≡ sub_ℕ c d
same a b c d e = cases (λ z. z ≡ sub_ℕ c d) a b (λ l. is_negsuc _ c d (omega arith)) (λ l. is_pos _ c d (omega arith))

apart : (m n : ℕ) → negsuc m ≡ pos n → ⊥
apart m n e = let z : ◌≡◌ {A = ℕ} 0 1 = cc in omega arith

-- The crossed sums of two equal differences are equal.
pub crossed : (a b c d : ℕ) → sub_ℕ a b ≡ sub_ℕ c d → a + d ≡ c + b
crossed a b c d =
    cases (λ z. z ≡ sub_ℕ c d → a + d ≡ c + b) a b
    (λ l.
    cases (λ z. negsuc (b - suc a) ≡ z → a + d ≡ c + b) c d (λ m e. omega (arith, ap mag e))
    (λ m e. absurd (apart (b - suc a) (c - d) e)))
    (λ l.
    cases (λ z. pos (a - b) ≡ z → a + d ≡ c + b) c d (λ m e. absurd (apart (d - suc c) (a - b) (sym e)))
    (λ m e. omega (arith, ap mag e)))

pub add : (a b c d : ℕ) → sub_ℕ a b +ℤ sub_ℕ c d ≡ sub_ℕ (a + c) (b + d)
add a b c d =
    cases (λ z. z +ℤ sub_ℕ c d ≡ sub_ℕ (a + c) (b + d)) a b
    (λ l.
    cases (λ z. negsuc (b - suc a) +ℤ z ≡ sub_ℕ (a + c) (b + d)) c d
    (λ m. is_negsuc (suc (b - suc a + (d - suc c))) (a + c) (b + d) (omega arith))
    (λ m. same (c - d) (suc (b - suc a)) (a + c) (b + d) (omega arith)))
    (λ l.
    cases (λ z. pos (a - b) +ℤ z ≡ sub_ℕ (a + c) (b + d)) c d
    (λ m. same (a - b) (suc (d - suc c)) (a + c) (b + d) (omega arith))
    (λ m. is_pos (a - b + (c - d)) (a + c) (b + d) (omega arith)))

minus_pos : (n a b : ℕ) → n + a ≡ b → neg_ℤ (pos n) ≡ sub_ℕ a b
minus_pos zero a b e = is_pos 0 a b (omega arith)
minus_pos (suc n) a b e = is_negsuc n a b e

-- The negative of a difference is the difference the other way round.
pub minus : (a b : ℕ) → neg_ℤ (sub_ℕ a b) ≡ sub_ℕ b a
minus a b = cases (λ z. neg_ℤ z ≡ sub_ℕ b a) a b (λ l. is_pos (suc (b - suc a)) b a (omega arith)) (λ l. minus_pos (a - b) b a (omega arith))

-- A difference of numbers less than h apart lies within h.
pub bounded : (h a b : ℕ) → a < b + h → b ≤ a + h → mag (sub_ℕ a b) < h
bounded h a b l r = cases (λ z. mag z < h) a b (λ m. omega arith) (λ m. omega arith)

-- A natural number added to a difference.
pub more : (a b n : ℕ) → sub_ℕ a b +ℤ pos n ≡ sub_ℕ (a + n) b
more a b n = rw (is_pos n n 0 (add-zero n), add, add-zero)

-- A natural number taken from a difference.
pub less : (a b n : ℕ) → sub_ℕ a b -ℤ pos n ≡ sub_ℕ a (b + n)
less a b n = rw (minus_pos n 0 n (add-zero n), add, add-zero)

-- A difference times a natural number.
pub scaled : (a b n : ℕ) → sub_ℕ a b *ℤ pos n ≡ sub_ℕ (a * n) (b * n)
scaled a b n =
    cases (λ z. z *ℤ pos n ≡ sub_ℕ (a * n) (b * n)) a b
    (λ l. minus_pos (suc (b - suc a) * n) (a * n) (b * n) (rw (← add-mul) (ap (λ (x : ℕ). x * n) (omega arith))))
    (λ l. is_pos ((a - b) * n) (a * n) (b * n) (rw (← add-mul) (ap (λ (x : ℕ). x * n) (omega arith))))

-- A number counted down from a multiple: a lies in the step q of n, and d whole steps lie above that.
from_above : (q d n a : ℕ) → q * n ≤ a → a < q * n + n → ((q + suc d) * n - suc a) / n ≡ d
from_above q d n a least most = div-eq_of_lt-le n (omega arith) (omega arith)

-- A shift that rounds down, of a difference from a multiple.
pub floored : (a b n : ℕ) → 0 < n → shr_z (sub_ℕ a (b * n)) n ≡ sub_ℕ (a / n) b
floored a b n some =
    cases (λ z. shr_z z n ≡ sub_ℕ (a / n) b) a (b * n) (λ l. is_negsuc ((b * n - suc a) / n) (a / n) b (omega (arith, below l, down l)))
    (λ l. is_pos ((a - b * n) / n) (a / n) b (omega (arith, up l)))
  where
    below : a < b * n → a / n < b
    below l = (div-lt_iff_lt-mul some).1 l

    down : a < b * n → (b * n - suc a) / n ≡ b - suc (a / n)
    down l =
        let split : b ≡ a / n + suc (b - suc (a / n)) = omega (arith, below l) in
        ap (λ (x : ℕ). (x * n - suc a) / n) split
        ∙ from_above (a / n) (b - suc (a / n)) n a (div-mul-le_self a n) (lt-div-mul-add some)

    up : b * n ≤ a → a / n ≡ (a - b * n) / n + b
    up l = ap (λ (x : ℕ). x / n) (omega arith) ∙ add-mul-div_right (a - b * n) b some

-- So does its distance from zero.
pub size_bounded : (h a b : ℕ) → a < b + h → b < a + h → nat_abs (sub_ℕ a b) < h
size_bounded h a b l r = cases (λ z. nat_abs z < h) a b (λ m. omega arith) (λ m. omega arith)

-- How far below zero a difference from zero is.
pub size_minus : (n : ℕ) → nat_abs (sub_ℕ 0 n) ≡ n
size_minus n = cases (λ z. nat_abs z ≡ n) 0 n (λ l. omega arith) (λ l. omega arith)
