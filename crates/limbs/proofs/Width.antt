-- How many bits a product takes at most. Assumes nothing.
use mathlib.Core.Path.{◌≡◌, refl, ◌∙◌}
use Prim.Native.Nat.{ℕ, zero, suc, ◌+◌, ◌*◌, ◌/◌, ◌^◌, ◌≤◌, ◌<◌}
use native.Mathlib.Nat.{le_refl, le_trans, lt_of_lt_of_le, mul-le-mul, mul-lt-mul_of_pos_right, mul-suc, one-le-pow, pow-le-pow_right, zero-lt-suc}
use native.Mathlib.Omega.{arith}
use lib.ListN.{length, take, replicate, length-replicate, get_or-replicate}
use lib.Pow.{pow-add, pow_pos}
use lib.Seq.{get_or-take, length-take-le}
use Rattle.limbs.specs.Total.{low, total, room, Fits}
use Rattle.limbs.proofs.Low.{low_same}

-- Three fives take seven bits.
threes : (k : ℕ) → 5 ^ (3 * k) ≤ 2 ^ (7 * k)
threes zero = le_refl 1
threes (suc k) =
    rw (mul-suc 3 k, mul-suc 7 k, pow-add 5 (3 * k) 3, pow-add 2 (7 * k) 7)
    (mul-le-mul {m₁ = 125} {m₂ = 128} (threes k) (omega arith))

fives_bits : (f : ℕ) → 5 ^ f ≤ 2 ^ (7 * (f / 3 + 1))
fives_bits f = le_trans (pow-le-pow_right (zero-lt-suc 4) {i = f} {j = 3 * (f / 3 + 1)} (omega arith)) (threes (f / 3 + 1))

-- A number of some bits, times fives and twos, below the limbs that hold as many bits.
pub wide : (x w f t n : ℕ) → x < 2 ^ w → w + 7 * (f / 3 + 1) + t < 32 * n → x * 5 ^ f * 2 ^ t < 2 ^ (32 * n)
wide x w f t n small enough =
    let k = 7 * (f / 3 + 1) in
    let first : x * 5 ^ f < 2 ^ w * 5 ^ f = mul-lt-mul_of_pos_right small (one-le-pow f 5 (zero-lt-suc 4)) in
    let second : 2 ^ w * 5 ^ f ≤ 2 ^ w * 2 ^ k = mul-le-mul (le_refl (2 ^ w)) (fives_bits f) in
    let both : x * 5 ^ f < 2 ^ (w + k) = rw pow-add (lt_of_lt_of_le first second) in
    let third : x * 5 ^ f * 2 ^ t < 2 ^ (w + k + t) = rw (pow-add 2 (w + k) t) (mul-lt-mul_of_pos_right both (pow_pos t)) in
    lt_of_lt_of_le third (pow-le-pow_right (zero-lt-suc 1) {i = w + k + t} {j = 32 * n} (omega arith))

-- Zeros stand for 0.
zeros : (size i : ℕ) → i ≤ size → low (replicate size 0) i ≡ 0
unfolding low
zeros size zero h = refl
zeros size (suc i) h = rw (get_or-replicate {A = ℕ} size i 0 0 h) (omega (arith, zeros size i (omega arith)))

-- The first n of them have room where they hold as many bits.
pub ready : (size n x w f t : ℕ) → n ≤ size → x < 2 ^ w → w + 7 * (f / 3 + 1) + t < 32 * n → Fits (take n (replicate size 0)) x f t
unfolding total room
ready size n x w f t within small enough =
    let l = replicate {A = ℕ} size 0 in
    let long : length (take n l) ≡ n = length-take-le n l (rw length-replicate within) in
    record {
      clear = rw long (low_same (take n l) l n (λ i h. get_or-take n l i 0 h) ∙ zeros size n within);
      within = omega arith;
      holds = rw long (wide x w f t n small enough);
    }
