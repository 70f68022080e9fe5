-- Laws of what the first limbs of a list stand for. Assumes nothing.
use mathlib.Core.Path.{◌≡◌, refl, ap, ap₂, ◌∙◌}
use mathlib.Core.List.{List}
use Prim.Native.Nat.{ℕ, zero, suc, ◌+◌, ◌*◌, ◌^◌, ◌≤◌, ◌<◌}
use native.Mathlib.Nat.{mul-le-mul_right, suc-mul}
use native.Mathlib.Omega.{arith}
use lib.ListN.{get_or, set, length}
use lib.Pow.{pow-add, pow_pos}
use lib.Seq.{get_or-set_same, get_or-set_other}
use Rattle.limbs.specs.Total.{low, room}

-- One limb more.
pub low-suc : (l : List ℕ) (i : ℕ) → low l (suc i) ≡ low l i + get_or l i 0 * 2 ^ (32 * i)
unfolding low
low-suc l i = refl

-- Lists of the same first limbs.
pub low_same : (l m : List ℕ) (i : ℕ) → ((k : ℕ) → k < i → get_or l k 0 ≡ get_or m k 0) → low l i ≡ low m i
unfolding low
low_same l m zero h = refl
low_same l m (suc i) h =
    ap₂ (λ (x y : ℕ). x + y * 2 ^ (32 * i)) (low_same l m i (λ k g. h k (omega arith))) (h i (omega arith))

-- A store is not seen below it, and is the limb there.
pub low-set : (l : List ℕ) (i v : ℕ) → i < length l → low (set l i v) (suc i) ≡ low l i + v * 2 ^ (32 * i)
low-set l i v h =
    low-suc (set l i v) i
    ∙ ap₂ (λ (x y : ℕ). x + y * 2 ^ (32 * i)) (low_same (set l i v) l i (λ k less. get_or-set_other l i k v 0 (λ e. omega arith)))
    (get_or-set_same l i v 0 h)

-- What a limb counts, by the one before it.
pub place : (i : ℕ) → 2 ^ (32 * suc i) ≡ 2 ^ 32 * 2 ^ (32 * i)
place i = ap (λ (n : ℕ). 2 ^ n) (omega arith) ∙ pow-add 2 32 (32 * i)

-- The first limbs stand for less than the next one counts.
pub low_lt : (l : List ℕ) (i : ℕ) → ((k : ℕ) → k < i → get_or l k 0 < 2 ^ 32) → low l i < 2 ^ (32 * i)
unfolding low
low_lt l zero h = pow_pos 0
low_lt l (suc i) h =
    let a : suc (get_or l i 0) * 2 ^ (32 * i) ≤ 2 ^ 32 * 2 ^ (32 * i) = mul-le-mul_right (2 ^ (32 * i)) (h i (omega arith)) in
    omega (arith, low_lt l i (λ k g. h k (omega arith)), place i, suc-mul (get_or l i 0) (2 ^ (32 * i)))

-- As many limbs have as much room.
pub same-room : (a b : List ℕ) → length a ≡ length b → room a ≡ room b
unfolding room
same-room a b e = ap (λ (n : ℕ). 2 ^ (32 * n)) e
