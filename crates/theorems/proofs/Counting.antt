-- How many decimal digits a number has: `count` is the least that is enough, and a numeral has a byte for each. Assumes nothing.
use Prim.Native.Nat.{ℕ, zero, suc, ◌+◌, ◌-◌, ◌/◌, ◌^◌, ◌≤◌, ◌<◌}
use mathlib.Core.Logic.{⊎_elim}
use mathlib.Core.Path.{◌≡◌, refl, ap}
use native.Mathlib.Nat.{div-lt_iff_lt-mul, le_refl, pow-le-pow_right, pow-suc, zero-lt-suc}
use native.Mathlib.Omega.{arith}
use lib.Dec.{ltb, ltb→lt, nltb→le}
use lib.ListN.{length, get_or}
use Rattle.laws.proofs.Branches.{either, which}
use Rattle.laws.proofs.Powers.{below_ten}
use Rattle.rules.specs.Bytes.{byte0}
use Rattle.rules.specs.Numbers.{count_up_to, count, numeral, plain}

-- A number below ten times a power is, without its last digit, below the power.
shorter : (v j : ℕ) → v < 10 ^ suc j → v / 10 < 10 ^ j
shorter v j h = (div-lt_iff_lt-mul (zero-lt-suc 9)).1 (rw (← pow-suc) h)

enough : (fuel v : ℕ) → v < 10 ^ suc fuel → v < 10 ^ count_up_to fuel v
unfolding count_up_to
enough zero v h = h
enough (suc fuel) v h =
    either (λ (n : ℕ). v < 10 ^ n) (ltb v 10) (ltb→lt v 10)
    (λ t. rw pow-suc ((div-lt_iff_lt-mul (zero-lt-suc 9)).0 (enough fuel (v / 10) (shorter v (suc fuel) h))))

no_more : (fuel v j : ℕ) → v < 10 ^ suc j → count_up_to fuel v ≤ suc j
unfolding count_up_to
no_more zero v j h = omega arith
no_more (suc fuel) v zero h = either (λ (n : ℕ). n ≤ 1) (ltb v 10) (λ t. le_refl 1) (λ t. absurd (omega (arith, nltb→le v 10 t)))
no_more (suc fuel) v (suc j) h =
    either (λ (n : ℕ). n ≤ suc (suc j)) (ltb v 10) (λ t. omega arith)
    (λ t. omega (arith, no_more fuel (v / 10) j (shorter v (suc j) h)))

-- A number is below the power of ten that its count names.
pub count-above : (v : ℕ) → v < 10 ^ count v
unfolding count
count-above v = enough v v (omega (arith, below_ten v, pow-suc 10 v))

-- No smaller count would do.
pub count_least : (v j : ℕ) → v < 10 ^ suc j → count v ≤ suc j
unfolding count
count_least v j h = no_more v v j h

-- Every number has a digit.
pub count_pos : (v : ℕ) → 0 < count v
unfolding count count_up_to
count_pos zero = zero-lt-suc 0
count_pos (suc v) = either (λ (n : ℕ). 0 < n) (ltb (suc v) 10) (λ t. zero-lt-suc 0) (λ t. zero-lt-suc _)

-- A number at or above a power of ten has more digits than the power has zeros.
pub count_reaches : (v j : ℕ) → 10 ^ j ≤ v → suc j ≤ count v
count_reaches v j h =
    ⊎_elim (λ less. less)
    (λ more. absurd (omega (arith, count-above v, pow-le-pow_right {n = 10} (zero-lt-suc 9) more))) (which j (count v))

-- A number above zero reaches the power of ten of its first digit.
pub count-first : (v : ℕ) → 0 < v → 10 ^ (count v - 1) ≤ v
count-first v some = from (count v) (count_pos v) (count_least v)
  where
    from : (n : ℕ) → 0 < n → ((j : ℕ) → v < 10 ^ suc j → n ≤ suc j) → 10 ^ (n - 1) ≤ v
    from zero h least = absurd (omega arith)
    from (suc zero) h least = some
    from (suc (suc n)) h least =
        let e : suc (suc n) - 1 ≡ suc n = omega arith in
        rw e (⊎_elim (λ less. absurd (omega (arith, least n less))) (λ more. more) (which v (10 ^ suc n)))

-- A numeral of n digits has n bytes.
pub length-numeral : (n v : ℕ) → length (numeral n v) ≡ n
unfolding numeral
length-numeral zero v = refl
length-numeral (suc n) v = ap suc (length-numeral n v)

-- A number's text has a byte for each digit.
pub length-plain : (v : ℕ) → length (plain v) ≡ count v
unfolding plain
length-plain v = length-numeral (count v) v

-- A byte that shows a digit.
pub record IsDigit (byte : ℕ) : Type 0 where
  pub least : byte0 ≤ byte
  pub most : byte ≤ byte0 + 9

-- Each byte of a numeral shows a digit.
pub numeral_digits : (n v i : ℕ) → i < n → IsDigit (get_or (numeral n v) i 0)
unfolding numeral
numeral_digits zero v i h = absurd (omega arith)
numeral_digits (suc n) v zero h = record { least = omega arith; most = omega arith }
numeral_digits (suc n) v (suc i) h = numeral_digits n v i (omega arith)
