-- Runs of digits as the exact reading takes them: each digit moves the number so far up by one place. Assumes nothing.
use mathlib.Core.Bool.{Bool, true, false, ◌&&◌}
use mathlib.Core.List.{List, [], ◌∷◌, ◌++◌, append-nil}
use mathlib.Core.Path.{◌≡◌, refl, sym, ap, ap₂, ◌∙◌}
use Prim.Native.Nat.{ℕ, zero, suc, ◌+◌, ◌-◌, ◌*◌, ◌/◌, ◌%◌, ◌^◌, ◌≤◌, ◌<◌}
use native.Mathlib.Nat.{div-div-eq-div-mul, div-eq_of_lt, lt_of_lt_of_le, mod-eq_of_lt, mod-lt, mod-one, pow-le-pow_right, pow-succ', suc-add, zero-add, zero-div, zero-lt-suc, add_comm}
use native.Mathlib.Omega.{arith}
use lib.Arith.{mod-mul}
use lib.Dec.{T, leb, ltb, eqb, eqb→eq, le→leb, lt→ltb}
use lib.IntN.{pos, negsuc}
use lib.ListN.{take, drop}
use lib.Pow.{pow-add}
use Rattle.laws.proofs.Branches.{and_both, either, taken}
use Rattle.laws.proofs.Powers.{ten_pos}
use Rattle.rules.specs.Bytes.{byte0, point, minus, letter_e}
use Rattle.rules.specs.Numbers.{count, numeral, plain}
use Rattle.rules.specs.Layout.{zeros, exponent}
use Rattle.theorems.proofs.Counting.{count-above, count_least, count_pos}
use Rattle.rules.specs.Reading.{Unsigned, no_number, over, is_digit, extended, powered, exponent_more, exponent_first, exponent_sign, decimals_more, decimals_first, whole_more, unsigned}

-- ---- parts of a numeral

-- The last digits of a numeral.
pub drop-numeral : (p r v : ℕ) → drop p (numeral (p + r) v) ≡ numeral r v
unfolding numeral
drop-numeral zero r v = rw zero-add
drop-numeral (suc p) r v = rw suc-add (drop-numeral p r v)

-- The first digits of a numeral.
pub take-numeral : (p r v : ℕ) → take p (numeral (p + r) v) ≡ numeral p (v / 10 ^ r)
unfolding numeral
take-numeral zero r v = refl
take-numeral (suc p) r v =
    rw suc-add
    (ap₂ (λ (x : ℕ) (ys : List ℕ). (byte0 + x % 10) ∷ ys)
    (ap (λ (y : ℕ). v / y) (ap (λ (n : ℕ). 10 ^ n) (add_comm p r) ∙ pow-add 10 r p) ∙ sym (div-div-eq-div-mul v (10 ^ r) (10 ^ p)))
    (take-numeral p r v))

-- Zeros are a numeral of 0.
pub zeros-numeral : (n : ℕ) → zeros n ≡ numeral n 0
unfolding zeros numeral
zeros-numeral zero = refl
zeros-numeral (suc n) = rw (zero-div (10 ^ n)) (ap (λ (ys : List ℕ). byte0 ∷ ys) (zeros-numeral n))

-- Zeros before a number make a longer numeral of it.
pub zeros_before : (z n v : ℕ) → v < 10 ^ n → zeros z ++ numeral n v ≡ numeral (z + n) v
unfolding zeros numeral
zeros_before zero n v h = rw zero-add
zeros_before (suc z) n v h =
    let none : v / 10 ^ (z + n) ≡ 0 = div-eq_of_lt (lt_of_lt_of_le h (pow-le-pow_right {n = 10} (zero-lt-suc 9) (omega arith))) in
    rw (suc-add, none) (ap (λ (ys : List ℕ). byte0 ∷ ys) (zeros_before z n v h))

-- ---- one law for every run of digits

digit_is : (d : ℕ) → d < 10 → T (is_digit (byte0 + d))
unfolding is_digit
digit_is d h =
    and_both (leb byte0 (byte0 + d)) (ltb (byte0 + d) (byte0 + 10)) (le→leb byte0 (byte0 + d) (omega arith))
    (lt→ltb (byte0 + d) (byte0 + 10) (omega arith))

-- The top digit of n + 1 and the n others make the number that all of them make.
top_digit : (a v n : ℕ) → (a * 10 + v / 10 ^ n % 10) * 10 ^ n + v % 10 ^ n ≡ a * 10 ^ suc n + v % 10 ^ suc n
top_digit a v n = rw (pow-succ' 10 n) (omega (arith, mod-mul v {m = 10} {c = 10 ^ n} (zero-lt-suc 9) (ten_pos n)))

-- A state of the reading that takes digits: a digit d, while fewer than `limit` were taken, takes the number a to a * 10 + d.
pub record Takes (state : ℕ → ℕ → List ℕ → Unsigned) (limit : ℕ) : Type 0 where
  pub digit : (a n d : ℕ) (bs : List ℕ) → d < 10 → n < limit → state a n ((byte0 + d) ∷ bs) ≡ state (a * 10 + d) (suc n) bs

-- Such a state takes a whole numeral.
pub run : {state : ℕ → ℕ → List ℕ → Unsigned} {limit : ℕ} → Takes state limit → (l v a n : ℕ) (bs : List ℕ) → n + l ≤ limit →
    state a n (numeral l v ++ bs) ≡ state (a * 10 ^ l + v % 10 ^ l) (n + l) bs
unfolding numeral
run {state} s zero v a n bs h = ap₂ (λ (x m : ℕ). state x m bs) (omega (arith, mod-one v)) (omega arith)
run {state} s (suc l) v a n bs h =
    s.digit a n (v / 10 ^ l % 10) (numeral l v ++ bs) (mod-lt _ (zero-lt-suc 9)) (omega arith)
    ∙ run s l v (a * 10 + v / 10 ^ l % 10) (suc n) bs (omega arith)
    ∙ ap₂ (λ (x m : ℕ). state x m bs) (top_digit a v l) (omega arith)

-- And the rest of one whose first digit was taken by itself.
pub rest_of_run : {state : ℕ → ℕ → List ℕ → Unsigned} {limit : ℕ} → Takes state limit → (l v a n : ℕ) (bs : List ℕ) → n + suc l ≤ limit →
    state (extended a (byte0 + v / 10 ^ l % 10)) (suc n) (numeral l v ++ bs) ≡ state (a * 10 ^ suc l + v % 10 ^ suc l) (n + suc l) bs
unfolding extended
rest_of_run {state} s l v a n bs h =
    let d = v / 10 ^ l % 10 in
    let same : byte0 + d - byte0 ≡ d = omega arith in
    rw same
    (run s l v (a * 10 + d) (suc n) bs (omega arith) ∙ ap₂ (λ (x m : ℕ). state x m bs) (top_digit a v l) (omega arith))

-- Before the point, behind it, and in an exponent, which takes four.
whole_takes : (limit : ℕ) → Takes (λ a n bs. whole_more a bs) limit
unfolding whole_more extended
whole_takes limit =
    record { digit = λ a n d bs h l. taken _ (is_digit (byte0 + d)) (digit_is d h) (ap (λ (x : ℕ). whole_more (a * 10 + x) bs) (omega arith)) }

decimals_take : (limit : ℕ) → Takes decimals_more limit
unfolding decimals_more extended
decimals_take limit =
    record {
      digit = λ a n d bs h l. taken _ (is_digit (byte0 + d)) (digit_is d h) (ap (λ (x : ℕ). decimals_more (a * 10 + x) (suc n) bs) (omega arith));
    }

exponent_takes : (a n : ℕ) (below : Bool) → Takes (exponent_more a n below) 4
unfolding exponent_more extended
exponent_takes a n below =
    record {
      digit = λ e c d bs h l.
          taken _ (is_digit (byte0 + d) && ltb c 4) (and_both (is_digit (byte0 + d)) (ltb c 4) (digit_is d h) (lt→ltb c 4 l))
          (ap (λ (x : ℕ). exponent_more a n below (e * 10 + x) (suc c) bs) (omega arith));
    }

-- ---- what each part of a text says

first-digit : (v l : ℕ) → T (is_digit (byte0 + v / 10 ^ l % 10))
first-digit v l = digit_is (v / 10 ^ l % 10) (mod-lt _ (zero-lt-suc 9))

-- All the digits of a number make the number.
all_digits : (l v : ℕ) → v < 10 ^ l → 0 * 10 ^ l + v % 10 ^ l ≡ v
all_digits l v h = omega (arith, mod-eq_of_lt h)

-- A numeral at the start.
pub unsigned-numeral : (l v : ℕ) (bs : List ℕ) → v < 10 ^ suc l → unsigned (numeral (suc l) v ++ bs) ≡ whole_more v bs
unfolding unsigned numeral
unsigned-numeral l v bs h =
    taken _ (is_digit (byte0 + v / 10 ^ l % 10)) (first-digit v l)
    (rest_of_run (whole_takes (suc l)) l v 0 0 bs (omega arith) ∙ ap (λ (x : ℕ). whole_more x bs) (all_digits (suc l) v h))

-- Zeros behind it.
pub whole_zeros : (n a : ℕ) (bs : List ℕ) → whole_more a (zeros n ++ bs) ≡ whole_more (a * 10 ^ n) bs
whole_zeros n a bs =
    rw zeros-numeral (run (whole_takes n) n 0 a 0 bs (omega arith) ∙ ap (λ (x : ℕ). whole_more x bs) (omega (arith, mod-eq_of_lt (ten_pos n))))

-- A point and a numeral behind it.
pub point-numeral : (a l v : ℕ) (bs : List ℕ) →
    whole_more a (point ∷ (numeral (suc l) v ++ bs)) ≡ decimals_more (a * 10 ^ suc l + v % 10 ^ suc l) (suc l) bs
unfolding whole_more is_digit decimals_first numeral
point-numeral a l v bs =
    taken no_number (is_digit (byte0 + v / 10 ^ l % 10)) (first-digit v l)
    (rest_of_run (decimals_take (suc l)) l v a 0 bs (omega arith) ∙ ap (λ (m : ℕ). decimals_more (a * 10 ^ suc l + v % 10 ^ suc l) m bs) (zero-add (suc l)))

-- An `e`, before the point and behind it.
pub whole_e : (a : ℕ) (bs : List ℕ) → whole_more a (letter_e ∷ bs) ≡ exponent_sign a 0 bs
unfolding whole_more is_digit
whole_e a bs = refl

pub decimals_e : (a n : ℕ) (bs : List ℕ) → decimals_more a n (letter_e ∷ bs) ≡ exponent_sign a n bs
unfolding decimals_more is_digit
decimals_e a n bs = refl

-- An exponent's digits, up to four of them.
exponent-numeral : (a n : ℕ) (below : Bool) (l x : ℕ) → suc l ≤ 4 → x < 10 ^ suc l → exponent_first a n below (numeral (suc l) x) ≡ powered a n below x
unfolding exponent_first numeral exponent_more
exponent-numeral a n below l x h small =
    taken no_number (is_digit (byte0 + x / 10 ^ l % 10)) (first-digit x l)
    (ap (λ (bs : List ℕ). exponent_more a n below (extended 0 (byte0 + x / 10 ^ l % 10)) 1 bs) (sym (append-nil (numeral l x)))
    ∙ rest_of_run (exponent_takes a n below) l x 0 0 [] (omega arith)
    ∙ ap (λ (y : ℕ). powered a n below y) (all_digits (suc l) x small))

-- A digit is no `-`.
exponent_plus : (a n l x : ℕ) → exponent_sign a n (numeral (suc l) x) ≡ exponent_first a n false (numeral (suc l) x)
unfolding exponent_sign numeral
exponent_plus a n l x =
    either (λ (r : Unsigned). r ≡ exponent_first a n false (numeral (suc l) x)) (eqb (byte0 + x / 10 ^ l % 10) minus)
    (λ t. absurd (omega (arith, eqb→eq (byte0 + x / 10 ^ l % 10) minus t))) (λ t. refl)

-- The exponent of a scientific layout, below 10^4 on either side.
pub exponent_up : (a n x : ℕ) → x < 10 ^ 4 → exponent_sign a n (exponent (pos x)) ≡ over (a * 10 ^ x) (10 ^ n)
unfolding exponent plain powered
exponent_up a n x h = by_count (count x) (count_pos x) (count_least x 3 h) (count-above x)
  where
    by_count : (c : ℕ) → 0 < c → c ≤ 4 → x < 10 ^ c → exponent_sign a n (numeral c x) ≡ over (a * 10 ^ x) (10 ^ n)
    by_count zero some few fits = absurd (omega arith)
    by_count (suc l) some few fits = exponent_plus a n l x ∙ exponent-numeral a n false l x few fits

pub exponent_down : (a n x : ℕ) → suc x < 10 ^ 4 → exponent_sign a n (exponent (negsuc x)) ≡ over a (10 ^ n * 10 ^ suc x)
unfolding exponent plain powered exponent_sign
exponent_down a n x h = by_count (count (suc x)) (count_pos (suc x)) (count_least (suc x) 3 h) (count-above (suc x))
  where
    by_count : (c : ℕ) → 0 < c → c ≤ 4 → suc x < 10 ^ c → exponent_first a n true (numeral c (suc x)) ≡ over a (10 ^ n * 10 ^ suc x)
    by_count zero some few fits = absurd (omega arith)
    by_count (suc l) some few fits = exponent-numeral a n true l (suc x) few fits
