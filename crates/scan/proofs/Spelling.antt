-- Eight bytes in one word: whether all are digits, and the number that they make. Assumes nothing.
use Rattle.std.proofs.Common.{◌≡◌, ℕ, zero, suc, ◌+◌, ◌-◌, ◌*◌, ◌/◌, ◌%◌, ◌<◌, true, List, [], ◌∷◌, map, length, get_or, drop, replicate, sym, refl, ap, ◌∙◌, subst, mod-lt, mod-eq_of_lt, arith, lit<, lit≤}
use lib.Bits.{bit_and, bit_xor, and_high, and_mask, and_le_r, xor_block, xor_lt, xor_zero_r}
use lib.ListN.{length-map}
use lib.Pow.{split}
use Rattle.std.specs.Int.{w64, from_le_bytes}
use Rattle.laws.specs.Lanes.{Below, word, paired}
use Rattle.laws.proofs.Tests.{le, ◌and◌, every}
use Rattle.laws.proofs.Lanes.{mapped, mapped_below, masked, flipped, added, tested, paired-below, pairs}
use Rattle.rules.specs.Bytes.{byte0}
use Rattle.rules.specs.Reading.{is_digit, extended}
use Rattle.scan.specs.Passes.{Passes, none, more}
use Rattle.scan.specs.Spells.{above, Joins, Spells}
use Rattle.scan.proofs.Passing.{in_range}

-- The upper half of a byte.
upper_half_lem : (b : ℕ) → b < 256 → bit_and b 0xF0 ≡ b / 16 * 16
upper_half_lem b byte = let small : b / 16 < 16 = omega arith in and_high b 4 4 ∙ ap (λ (q : ℕ). q * 16) (mod-eq_of_lt small)

-- What is tested of a byte.
pub record Digit (b : ℕ) : Type 0 where
  pub digit : is_digit b ≡ true
  pub value : bit_and (above b) 0x0F ≡ b - byte0
  pub small : bit_and (above b) 0x0F < 10

-- The two halves of a byte, apart from the digit 0.
flipped_halves : (b : ℕ) → bit_xor b 0x30 ≡ bit_xor (b / 16) 3 * 16 + b % 16
flipped_halves b =
    ap (λ (x : ℕ). bit_xor x 0x30) (sym (split b 4)) ∙ xor_block 4 (b / 16) 3 (b % 16) 0 (mod-lt b (lit< tt)) (lit< tt)
    ∙ ap (λ (x : ℕ). bit_xor (b / 16) 3 * 16 + x) (xor_zero_r (b % 16))

-- Only 3 is as 3.
same_half : (a : ℕ) → a < 16 → bit_xor a 3 ≡ 0 → a ≡ 3
same_half a small alike = omega (arith, every (λ x. le x (3 + bit_xor x 3) and le 3 (x + bit_xor x 3)) 16 tt a small)

digit_byte : (b : ℕ) → b < 256 → bit_and (above b) 0xF0 ≡ 0 → bit_and (bit_and (above b) 0x0F + 6) 0xF0 ≡ 0 → Digit b
digit_byte b byte upper lower =
    let low : bit_and (above b) 0x0F ≡ above b % 16 = and_mask (above b) 4 in
    let six : bit_and (above b) 0x0F + 6 < 256 = omega (arith, and_le_r (above b) 0x0F) in
    let high : above b / 16 ≡ 0 = omega (arith, sym (upper_half_lem (above b) (xor_lt 8 b 0x30 byte (lit< tt))) ∙ upper) in
    let few : (bit_and (above b) 0x0F + 6) / 16 ≡ 0 = omega (arith, sym (upper_half_lem (bit_and (above b) 0x0F + 6) six) ∙ lower) in
    let half : bit_xor (b / 16) 3 ≡ 0 = omega (arith, high, flipped_halves b) in
    let three : b / 16 ≡ 3 = same_half (b / 16) (omega arith) half in
    let rest : above b ≡ b % 16 = omega (arith, half, flipped_halves b) in
    record { digit = in_range b (omega arith) (omega arith); value = omega arith; small = omega arith }

-- A list of n, written out.
abbrev listed : ℕ → List ℕ → List ℕ
listed zero xs = []
listed (suc n) xs = get_or xs 0 0 ∷ listed n (drop 1 xs)

spread : (n : ℕ) (xs : List ℕ) → length xs ≡ n → xs ≡ listed n xs
spread zero [] l = refl
spread zero (x ∷ xs) l = absurd (omega arith)
spread (suc n) [] l = absurd (omega arith)
spread (suc n) (x ∷ xs) l = ap (λ (t : List ℕ). x ∷ t) (spread n xs (omega arith))

-- Neighbours joined in lanes of eight, sixteen and thirty-two bits.
abbrev pub twos : ℕ → ℕ
twos n = bit_and (n * 10 + n / 0x100) 0x00FF_00FF_00FF_00FF

abbrev pub fours : ℕ → ℕ
fours n = bit_and (n * 100 + n / 0x1_0000) 0x0000_FFFF_0000_FFFF

abbrev pub eights : ℕ → ℕ
eights n = bit_and (n * 10000 + n / 0x1_0000_0000) 0xFFFF_FFFF

-- Of a list of eight.
abbrev Joined : List ℕ → Type 0
Joined xs = Below 10 xs → word 64 (paired 10000 (paired 100 (paired 10 xs))) ≡ eights (fours (twos (word 8 xs)))

by_pairs : (a b c d e f g h : ℕ) → Joined (a ∷ b ∷ c ∷ d ∷ e ∷ f ∷ g ∷ h ∷ [])
unfolding word paired
by_pairs a b c d e f g h small =
    let xs = a ∷ b ∷ c ∷ d ∷ e ∷ f ∷ g ∷ h ∷ [] in
    let hundreds = paired-below 10 xs (lit< tt) small in
    let thousands = paired-below 100 (paired 10 xs) (lit< tt) hundreds in
    sym (ap (λ (n : ℕ). eights (fours n)) (pairs 8 10 xs small (lit≤ tt) (lit≤ tt))
    ∙ ap (λ (n : ℕ). eights n) (pairs 16 100 (paired 10 xs) hundreds (lit≤ tt) (lit≤ tt))
    ∙ pairs 32 10000 (paired 100 (paired 10 xs)) thousands (lit≤ tt) (lit≤ tt))

pub joins : (n : ℕ) → Joins n (eights (fours (twos n)))
joins n =
    record {
      joins = λ xs l small e.
          subst Joined (sym (spread 8 xs l)) (by_pairs _ _ _ _ _ _ _ _) small ∙ ap (λ (z : ℕ). eights (fours (twos z))) e;
    }

-- The lower halves of eight bytes.
abbrev low : ℕ → ℕ
low b = bit_and b 0x0F

lows : (xs : List ℕ) → length xs ≡ 8 → Below 256 xs → bit_and (word 8 xs) 0x0F0F_0F0F_0F0F_0F0F ≡ word 8 (map low xs)
unfolding word
lows xs l bytes = ap (λ (n : ℕ). bit_and (word 8 xs) (word 8 (replicate n 0x0F))) (sym l) ∙ masked 8 0x0F xs bytes (lit< tt)

-- A mask that leaves nothing of eight bytes leaves nothing of each.
nothing : (xs : List ℕ) → length xs ≡ 8 → Below 256 xs → bit_and (word 8 xs) 0xF0F0_F0F0_F0F0_F0F0 ≡ 0 → (i : ℕ) → i < 8 → bit_and (get_or xs i 0) 0xF0 ≡ 0
unfolding word
nothing xs l bytes e i less =
    tested 8 0xF0 0 xs bytes (lit< tt) (lit< tt)
    (subst (λ (n : ℕ). bit_and (word 8 xs) (word 8 (replicate n 0xF0)) ≡ word 8 (replicate n 0)) (sym l) e) i (omega arith)

sixes : (xs : List ℕ) → length xs ≡ 8 → word 8 xs + 0x0606_0606_0606_0606 ≡ word 8 (map (λ x. x + 6) xs)
unfolding word
sixes xs l = ap (λ (n : ℕ). word 8 xs + word 8 (replicate n 6)) (sym l) ∙ added 8 6 xs

pub aboves_below : (xs : List ℕ) → Below 256 xs → Below 256 (map above xs)
aboves_below xs bytes = mapped_below above 256 xs (lit< tt) (λ i less. xor_lt 8 (get_or xs i 0) 0x30 (bytes i) (lit< tt))

-- Eight bytes that pass both tests are digits.
digits : (xs : List ℕ) → length xs ≡ 8 → Below 256 xs → bit_and (word 8 (map above xs)) 0xF0F0_F0F0_F0F0_F0F0 ≡ 0 →
    bit_and (bit_and (word 8 (map above xs)) 0x0F0F_0F0F_0F0F_0F0F + 0x0606_0606_0606_0606) 0xF0F0_F0F0_F0F0_F0F0 ≡ 0 →
    (i : ℕ) → i < 8 → Digit (get_or xs i 0)
digits xs l bytes upper lower i less =
    let vs = map above xs in
    let ys = map low vs in
    let zs = map (λ x. x + 6) ys in
    let count : length vs ≡ 8 = length-map xs above ∙ l in
    let count_low : length ys ≡ 8 = length-map vs low ∙ count in
    let count-six : length zs ≡ 8 = length-map ys (λ x. x + 6) ∙ count_low in
    let half : (j : ℕ) → j < length ys → get_or ys j 0 + 6 < 256 =
    λ j k. omega (arith, mapped low vs j (omega arith), and_le_r (get_or vs j 0) 0x0F) in
    let six : bit_and (word 8 vs) 0x0F0F_0F0F_0F0F_0F0F + 0x0606_0606_0606_0606 ≡ word 8 zs =
    ap (λ (n : ℕ). n + 0x0606_0606_0606_0606) (lows vs count (aboves_below xs bytes)) ∙ sixes ys count_low in
    let first = nothing vs count (aboves_below xs bytes) upper i less in
    let second = nothing zs count-six (mapped_below (λ x. x + 6) 256 ys (lit< tt) half)
    (ap (λ (n : ℕ). bit_and n 0xF0F0_F0F0_F0F0_F0F0) (sym six) ∙ lower) i less in
    let here : get_or vs i 0 ≡ above (get_or xs i 0) = mapped above xs i (omega arith) in
    let there : get_or zs i 0 ≡ low (above (get_or xs i 0)) + 6 =
    mapped (λ x. x + 6) ys i (omega arith) ∙ ap (λ (n : ℕ). n + 6) (mapped low vs i (omega arith) ∙ ap low here) in
    digit_byte (get_or xs i 0) (bytes i) (ap (λ (n : ℕ). bit_and n 0xF0) (sym here) ∙ first) (ap (λ (n : ℕ). bit_and n 0xF0) (sym there) ∙ second)

-- The number a with the digits of a text behind it, where it has no others.
abbrev number : ℕ → List ℕ → ℕ
number a [] = a
number a (x ∷ xs) = number (extended a x) xs

passed : (xs : List ℕ) (a : ℕ) → ((i : ℕ) → i < length xs → is_digit (get_or xs i 0) ≡ true) → Passes a xs (length xs) (number a xs) []
passed [] a digit = none
passed (x ∷ xs) a digit = more (digit 0 (omega arith)) (passed xs (extended a x) (λ i less. digit (suc i) (omega arith)))

-- So they make the number that their lower halves make.
abbrev Spelled : ℕ → List ℕ → Type 0
Spelled r xs = ((i : ℕ) → i < 8 → Digit (get_or xs i 0)) → Joins (word 8 (map low (map above xs))) r → (r < 100000000) × Passes 0 xs 8 r []

by_digits : (r a b c d e f g h : ℕ) → Spelled r (a ∷ b ∷ c ∷ d ∷ e ∷ f ∷ g ∷ h ∷ [])
unfolding word paired extended
by_digits r a b c d e f g h digit lanes =
    let xs = a ∷ b ∷ c ∷ d ∷ e ∷ f ∷ g ∷ h ∷ [] in
    let D0 = digit 0 (lit< tt) in
    let D1 = digit 1 (lit< tt) in
    let D2 = digit 2 (lit< tt) in
    let D3 = digit 3 (lit< tt) in
    let D4 = digit 4 (lit< tt) in
    let D5 = digit 5 (lit< tt) in
    let D6 = digit 6 (lit< tt) in
    let D7 = digit 7 (lit< tt) in
    let below : (i : ℕ) → i < 8 → low (get_or (map above xs) i 0) < 10 =
    λ i less. rw (mapped above xs i less) (digit i less).small in
    let made = lanes.joins (map low (map above xs)) refl (mapped_below low 10 (map above xs) (lit< tt) below) refl in
    let few : r < 100000000 = omega (arith, made, D0.small, D1.small, D2.small, D3.small, D4.small, D5.small, D6.small, D7.small) in
    let is : number 0 xs ≡ r = omega (arith, made, D0.value, D1.value, D2.value, D3.value, D4.value, D5.value, D6.value, D7.value) in
    (few, rw (← is) (passed xs 0 (λ i less. (digit i less).digit)))

pub spelled : {v r : ℕ} → bit_and v 0xF0F0_F0F0_F0F0_F0F0 ≡ 0 →
    bit_and (bit_and v 0x0F0F_0F0F_0F0F_0F0F + 0x0606_0606_0606_0606) 0xF0F0_F0F0_F0F0_F0F0 ≡ 0 → Joins (bit_and v 0x0F0F_0F0F_0F0F_0F0F) r → Spells v r
spelled {v} {r} upper lower joins =
    record {
      spells = λ xs l bytes e.
          let digit = digits xs l bytes (rw e upper) (rw e lower) in
          let lanes : Joins (word 8 (map low (map above xs))) r =
          rw (← lows (map above xs) (length-map xs above ∙ l) (aboves_below xs bytes), e) joins in
          subst (Spelled r) (sym (spread 8 xs l)) (by_digits r _ _ _ _ _ _ _ _) digit lanes;
    }

-- ---- eight bytes as they are read

-- As a word they are the number that the library reads of them.
pub read_word : (xs : List ℕ) → length xs ≡ 8 → from_le_bytes w64 xs ≡ word 8 xs
unfolding word
read_word xs l = subst (λ (ys : List ℕ). from_le_bytes w64 ys ≡ word 8 ys) (sym (spread 8 xs l)) (omega arith)

-- Eight bytes with the digit 0 taken away.
pub aboves : (xs : List ℕ) → length xs ≡ 8 → Below 256 xs → bit_xor (word 8 xs) 0x3030_3030_3030_3030 ≡ word 8 (map above xs)
unfolding word
aboves xs l bytes = ap (λ (n : ℕ). bit_xor (word 8 xs) (word 8 (replicate n 0x30))) (sym l) ∙ flipped 8 0x30 xs bytes (lit< tt)
