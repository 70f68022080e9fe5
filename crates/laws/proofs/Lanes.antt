-- What masks, products and shifts do to numbers side by side in one word. Assumes nothing.
use mathlib.Core.List.{List, [], ◌∷◌, ◌++◌, map}
use mathlib.Core.Path.{◌≡◌, refl, sym, ap, ap₂, ◌∙◌}
use Prim.Native.Nat.{ℕ, zero, suc, ◌+◌, ◌-◌, ◌*◌, ◌/◌, ◌%◌, ◌^◌, ◌≤◌, ◌<◌}
use native.Mathlib.Nat.{zero-mul, suc-mul, mul-le-mul_right, mul-pos, mod-eq_of_lt, div-add-mod', div-one, div-eq_of_lt, div-div-eq-div-mul}
use native.Mathlib.Nat.{lt_of_le_of_lt, lt_of_lt_of_le}
use native.Mathlib.Omega.{arith}
use lib.Arith.{digits_div, digits_mod}
use lib.Bits.{bit_and, bit_xor, xor_block, and_block, and_le_l, and_mask, and_zero_r}
use lib.ListN.{length, get_or, drop, replicate, length-map}
use lib.Pow.{pow_pos, pow-add}
use Rattle.laws.specs.Lanes.{Below, word, paired}

-- The lowest lane.
pub lowest : (w : ℕ) (xs : List ℕ) → Below (2 ^ w) xs → word w xs % 2 ^ w ≡ get_or xs 0 0
unfolding word
lowest w [] h = mod-eq_of_lt (pow_pos w)
lowest w (x ∷ xs) h = digits_mod (word w xs) (h 0)

-- The lanes of one list above those of another.
pub above : (w : ℕ) (xs ys : List ℕ) → word w (xs ++ ys) ≡ word w ys * 2 ^ (length xs * w) + word w xs
unfolding word
above w [] ys = rw (zero-mul w) (omega arith)
above w (x ∷ xs) ys = rw (above w xs ys, suc-mul (length xs) w, pow-add 2 (length xs * w) w) (omega arith)

-- The lanes behind the first k.
pub beyond : (w k : ℕ) (xs : List ℕ) → Below (2 ^ w) xs → word w xs / 2 ^ (k * w) ≡ word w (drop k xs)
unfolding word
beyond w zero xs h = rw (zero-mul w) (div-one (word w xs))
beyond w (suc k) [] h = div-eq_of_lt (pow_pos (suc k * w))
beyond w (suc k) (x ∷ xs) h =
    let step : 2 ^ (suc k * w) ≡ 2 ^ w * 2 ^ (k * w) = ap (λ (n : ℕ). 2 ^ n) (omega arith) ∙ pow-add 2 w (k * w) in
    ap (λ (n : ℕ). (word w xs * 2 ^ w + x) / n) step
    ∙ sym (div-div-eq-div-mul (word w xs * 2 ^ w + x) (2 ^ w) (2 ^ (k * w)))
    ∙ ap (λ (n : ℕ). n / 2 ^ (k * w)) (digits_div (word w xs) (h 0))
    ∙ beyond w k xs (λ i. h (suc i))

-- What is done to every number of a list is done to each.
pub mapped : (f : ℕ → ℕ) (xs : List ℕ) (i : ℕ) → i < length xs → get_or (map f xs) i 0 ≡ f (get_or xs i 0)
mapped f [] i h = absurd (omega arith)
mapped f (x ∷ xs) zero h = refl
mapped f (x ∷ xs) (suc i) h = mapped f xs i (omega arith)

pub mapped_below : (f : ℕ → ℕ) (n : ℕ) (xs : List ℕ) → 0 < n → ((i : ℕ) → i < length xs → f (get_or xs i 0) < n) → Below n (map f xs)
mapped_below f n [] pos h i = pos
mapped_below f n (x ∷ xs) pos h zero = h 0 (omega arith)
mapped_below f n (x ∷ xs) pos h (suc i) = mapped_below f n xs pos (λ j less. h (suc j) (omega arith)) i

-- The same mask on every lane.
pub masked : (w m : ℕ) (xs : List ℕ) → Below (2 ^ w) xs → m < 2 ^ w →
    bit_and (word w xs) (word w (replicate (length xs) m)) ≡ word w (map (λ x. bit_and x m) xs)
unfolding word
masked w m [] h small = refl
masked w m (x ∷ xs) h small =
    and_block w (word w xs) (word w (replicate (length xs) m)) x m (h 0) small
    ∙ ap (λ (z : ℕ). z * 2 ^ w + bit_and x m) (masked w m xs (λ i. h (suc i)) small)

pub flipped : (w m : ℕ) (xs : List ℕ) → Below (2 ^ w) xs → m < 2 ^ w →
    bit_xor (word w xs) (word w (replicate (length xs) m)) ≡ word w (map (λ x. bit_xor x m) xs)
unfolding word
flipped w m [] h small = refl
flipped w m (x ∷ xs) h small =
    xor_block w (word w xs) (word w (replicate (length xs) m)) x m (h 0) small
    ∙ ap (λ (z : ℕ). z * 2 ^ w + bit_xor x m) (flipped w m xs (λ i. h (suc i)) small)

-- The same number added to every lane.
pub added : (w m : ℕ) (xs : List ℕ) → word w xs + word w (replicate (length xs) m) ≡ word w (map (λ x. x + m) xs)
unfolding word
added w m [] = refl
added w m (x ∷ xs) = rw (← added w m xs) (omega arith)

-- Where a word has the same number in every lane, each lane has it.
pub everywhere : (w m : ℕ) (xs : List ℕ) → Below (2 ^ w) xs → m < 2 ^ w → word w xs ≡ word w (replicate (length xs) m) →
    (i : ℕ) → i < length xs → get_or xs i 0 ≡ m
unfolding word
everywhere w m [] h small e i less = absurd (omega arith)
everywhere w m (x ∷ xs) h small e zero less =
    sym (digits_mod (word w xs) (h 0)) ∙ ap (λ (z : ℕ). z % 2 ^ w) e ∙ digits_mod (word w (replicate (length xs) m)) small
everywhere w m (x ∷ xs) h small e (suc i) less =
    everywhere w m xs (λ j. h (suc j)) small
    (sym (digits_div (word w xs) (h 0)) ∙ ap (λ (z : ℕ). z / 2 ^ w) e ∙ digits_div (word w (replicate (length xs) m)) small) i (omega arith)

-- A test of the same mask on every lane.
pub tested : (w m r : ℕ) (xs : List ℕ) → Below (2 ^ w) xs → m < 2 ^ w → r < 2 ^ w →
    bit_and (word w xs) (word w (replicate (length xs) m)) ≡ word w (replicate (length xs) r) → (i : ℕ) → i < length xs → bit_and (get_or xs i 0) m ≡ r
tested w m r xs h small result e i less =
    let ys = map (λ x. bit_and x m) xs in
    let count : length ys ≡ length xs = length-map xs (λ x. bit_and x m) in
    let below : Below (2 ^ w) ys = mapped_below (λ x. bit_and x m) (2 ^ w) xs (pow_pos w) (λ j k. lt_of_le_of_lt (and_le_l (get_or xs j 0) m) (h j)) in
    sym (mapped (λ x. bit_and x m) xs i less)
    ∙ everywhere w r ys below result (sym (masked w m xs h small) ∙ e ∙ ap (λ (n : ℕ). word w (replicate n r)) (sym count)) i (rw count less)

-- Two digits at base c.
pub two_digits : {c x y : ℕ} → x < c → y < c → x * c + y < c * c
two_digits {c} {x} {y} h k = omega (arith, mul-le-mul_right c h)

pub paired-below : (c : ℕ) (xs : List ℕ) → 0 < c → Below c xs → Below (c * c) (paired c xs)
unfolding paired
paired-below c [] pos h i = mul-pos pos pos
paired-below c (x ∷ []) pos h i = mul-pos pos pos
paired-below c (x ∷ y ∷ zs) pos h zero = two_digits (h 0) (h 1)
paired-below c (x ∷ y ∷ zs) pos h (suc i) = paired-below c zs pos (λ j. h (suc (suc j))) i

-- Neighbours become one number each, in lanes twice as wide.
pub pairs : (w c : ℕ) (xs : List ℕ) → Below c xs → c ≤ 2 ^ w → c * c ≤ 2 ^ w →
    bit_and (word w xs * c + word w xs / 2 ^ w) (word (w + w) (replicate (length (paired c xs)) (2 ^ w - 1))) ≡ word (w + w) (paired c xs)
unfolding word paired
pairs w c [] h narrow room = and_zero_r (0 * c + 0 / 2 ^ w)
pairs w c (x ∷ []) h narrow room = and_zero_r ((0 * 2 ^ w + x) * c + (0 * 2 ^ w + x) / 2 ^ w)
pairs w c (x ∷ y ∷ zs) h narrow room =
    let b = 2 ^ w in
    let z = word w zs in
    let q = z / b in
    let low = (y * c + z % b) * b + (x * c + y) in
    let n = word (w + w) (replicate (length (paired c zs)) (b - 1)) in
    let square : 2 ^ (w + w) ≡ b * b = pow-add 2 w w in
    let first : x * c + y < b = lt_of_lt_of_le (two_digits (h 0) (h 1)) room in
    let next : y * c + z % b < b =
    rw (lowest w zs (λ i. lt_of_lt_of_le (h (suc (suc i))) narrow)) (lt_of_lt_of_le (two_digits (h 1) (h 2)) room) in
    let inside : low < 2 ^ (w + w) = rw square (omega (arith, first, mul-le-mul_right b next)) in
    let cut : ((z * b + y) * b + x) / b ≡ z * b + y = digits_div (z * b + y) (lt_of_lt_of_le (h 0) narrow) in
    let sum : ((z * b + y) * b + x) * c + (z * b + y) ≡ (z * c + q) * 2 ^ (w + w) + low =
    rw square (omega (arith, ap (λ (u : ℕ). u * b) (div-add-mod' z b))) in
    let small : b - 1 < 2 ^ (w + w) = rw square (omega (arith, pow_pos w, mul-le-mul_right b (pow_pos w))) in
    ap₂ bit_and (ap (λ (u : ℕ). ((z * b + y) * b + x) * c + u) cut ∙ sum) refl
    ∙ and_block (w + w) (z * c + q) n low (b - 1) inside small
    ∙ ap₂ (λ (u v : ℕ). u * 2 ^ (w + w) + v) (pairs w c zs (λ i. h (suc (suc i))) narrow room)
    (and_mask low w ∙ digits_mod (y * c + z % b) first)
