-- The last bytes of a text as one word, with the digit 0 in place of those before. Assumes nothing.
use Rattle.std.proofs.Common.{◌≡◌, ℕ, zero, suc, ◌+◌, ◌-◌, ◌*◌, ◌/◌, ◌%◌, ◌^◌, ◌<◌, ◌≤◌, List, [], ◌∷◌, ◌++◌, map, length, drop, replicate, sym, refl, ap, ◌∙◌, subst, lt_of_le_of_lt, mod-eq_of_lt, suc-mul, suc-add, zero-add, div-mul-le_self, arith, lit<, length-append, length-drop, drop-drop, pow-add}
use lib.Bits.{bit_xor}
use lib.ListN.{length-replicate}
use Rattle.std.specs.Int.{w64, from_le_bytes}
use Rattle.laws.specs.Lanes.{Below, word}
use Rattle.laws.proofs.Lanes.{beyond}
use Rattle.rules.specs.Bytes.{byte0}
use Rattle.rules.specs.Reading.{extended}
use Rattle.scan.specs.Passes.{Passes, more, Makes}
use Rattle.scan.specs.Spells.{above, Spells}
use Rattle.scan.proofs.Spelling.{aboves, aboves_below, read_word}
use Rattle.scan.proofs.Loading.{makes}

copies_below : (n a k : ℕ) → a < n → Below n (replicate k a)
copies_below n a zero small i = omega arith
copies_below n a (suc k) small zero = small
copies_below n a (suc k) small (suc i) = copies_below n a k small i

-- A part of a list is below what the list is below.
drop-below : (n at : ℕ) (t : List ℕ) → Below n t → Below n (drop at t)
drop-below n zero t h = h
drop-below n (suc at) [] h = h
drop-below n (suc at) (x ∷ xs) h = drop-below n at xs (λ i. h (suc i))

append-below : (n : ℕ) (xs ys : List ℕ) → Below n xs → Below n ys → Below n (xs ++ ys)
append-below n [] ys h k i = k i
append-below n (x ∷ xs) ys h k zero = h 0
append-below n (x ∷ xs) ys h k (suc i) = append-below n xs ys (λ j. h (suc j)) k i

-- What is done to a list is done to the rest of it.
drop-map : (f : ℕ → ℕ) (k : ℕ) (xs : List ℕ) → drop k (map f xs) ≡ map f (drop k xs)
drop-map f zero xs = refl
drop-map f (suc k) [] = refl
drop-map f (suc k) (x ∷ xs) = drop-map f k xs

-- Digits 0 in the lowest lanes leave them empty.
raised : (k : ℕ) (t : List ℕ) → word 8 (map above (replicate k byte0 ++ t)) ≡ word 8 (map above t) * 2 ^ (k * 8)
unfolding word
raised zero t = omega arith
raised (suc k) t = rw (raised k t, suc-mul k 8, pow-add 2 (k * 8) 8) (omega arith)

-- So does a word that is moved down and up again.
pub fills : (n : ℕ) (xs : List ℕ) (v : ℕ) → n ≤ 8 → v < 2 ^ 64 → Below 256 xs → word 8 (map above xs) ≡ v →
    word 8 (map above (replicate (8 - n) byte0 ++ drop (8 - n) xs)) ≡ v / 2 ^ (64 - 8 * n) * 2 ^ (64 - 8 * n) % 2 ^ 64
fills n xs v few size bytes e =
    let k = 8 - n in
    let bits : k * 8 ≡ 64 - 8 * n = omega arith in
    let kept : v / 2 ^ (k * 8) * 2 ^ (k * 8) % 2 ^ 64 ≡ v / 2 ^ (k * 8) * 2 ^ (k * 8) =
    mod-eq_of_lt (lt_of_le_of_lt (div-mul-le_self v (2 ^ (k * 8))) size) in
    let rest : word 8 (map above (drop k xs)) ≡ v / 2 ^ (k * 8) =
    ap (word 8) (sym (drop-map above k xs)) ∙ sym (beyond 8 k (map above xs) (aboves_below xs bytes)) ∙ ap (λ (m : ℕ). m / 2 ^ (k * 8)) e in
    raised k (drop k xs) ∙ ap (λ (m : ℕ). m * 2 ^ (k * 8)) rest ∙ sym kept ∙ ap (λ (m : ℕ). v / 2 ^ m * 2 ^ m % 2 ^ 64) bits

-- Digits 0 at the head of a text make nothing.
behind_zero : {n r : ℕ} {t : List ℕ} → Passes 0 (byte0 ∷ t) (suc n) r [] → Passes 0 t n r []
unfolding extended
behind_zero (more digit p) = p

behind_zeros : (k : ℕ) {n r : ℕ} {t : List ℕ} → Passes 0 (replicate k byte0 ++ t) (k + n) r [] → Passes 0 t n r []
behind_zeros zero {n} p = rw (zero-add n) at p
behind_zeros (suc k) {n} p = behind_zeros k (behind_zero (rw (suc-add k n) at p))

-- The last n bytes of a text, at most eight, where they spell a number.
pub last : (t : List ℕ) (n : ℕ) {v r : ℕ} (part : List ℕ) → 8 ≤ length t → n ≤ 8 → part ≡ drop (length t - 8) t → Below 256 t → v ≡ from_le_bytes w64 part →
    let u = bit_xor v 0x3030_3030_3030_3030 in u < 2 ^ 64 → Spells (u / 2 ^ (64 - 8 * n) * 2 ^ (64 - 8 * n) % 2 ^ 64) r →
    (r < 100000000) × Makes n (drop (length t - n) t) r []
last t n {v} {r} part long few is bytes e size spells =
    let below : Below 256 part = rw is (drop-below 256 (length t - 8) t bytes) in
    let k = 8 - n in
    let counted : length part ≡ 8 = omega (arith, ap length is, length-drop (length t - 8) t) in
    let copies = replicate k byte0 in
    let text = copies ++ drop k part in
    let text-count : length text ≡ 8 =
    omega (arith, length-append copies (drop k part), length-replicate k byte0, length-drop k part) in
    let text-below : Below 256 text = append-below 256 copies (drop k part) (copies_below 256 byte0 k (lit< tt)) (drop-below 256 k part below) in
    let flip : word 8 (map above part) ≡ bit_xor v 0x3030_3030_3030_3030 =
    sym (aboves part counted below) ∙ ap (λ (m : ℕ). bit_xor m 0x3030_3030_3030_3030) (sym (e ∙ read_word part counted)) in
    let all = spells.spells text text-count text-below (fills n part (bit_xor v 0x3030_3030_3030_3030) few size below flip) in
    let place : length t - 8 + k ≡ length t - n = omega arith in
    let sum : k + n ≡ 8 = omega arith in
    let at : drop k part ≡ drop (length t - n) t = ap (drop k) is ∙ drop-drop k (length t - 8) t ∙ ap (λ (m : ℕ). drop m t) place in
    (all.0, makes (subst (λ (u : List ℕ). Passes 0 u n r []) at (behind_zeros k (rw sum all.1))))
