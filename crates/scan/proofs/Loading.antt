-- The first eight bytes of a text as one word, and the digits among them. Assumes nothing.
use Rattle.std.proofs.Common.{◌≡◌, ℕ, zero, suc, ◌+◌, ◌-◌, ◌*◌, ◌^◌, ◌<◌, ◌≤◌, List, [], ◌∷◌, ◌++◌, length, take, drop, sym, ap, ◌∙◌, subst, add-zero, arith, lit<, take-append-drop, length-take-le}
use native.Mathlib.Nat.{pow-succ'}
use lib.Bits.{bit_xor}
use Rattle.std.specs.Int.{w64, from_le_bytes}
use Rattle.laws.specs.Lanes.{Below}
use Rattle.rules.specs.Bytes.{byte0}
use Rattle.rules.specs.Reading.{extended}
use Rattle.scan.specs.Passes.{Passes, none, more, Makes}
use Rattle.scan.specs.Spells.{Spells}
use Rattle.scan.proofs.Spelling.{aboves, read_word}

-- The first bytes of a text are bytes.
take_below : (k : ℕ) (t : List ℕ) → Below 256 t → Below 256 (take k t)
take_below zero t h i = lit< tt
take_below (suc k) [] h i = lit< tt
take_below (suc k) (x ∷ xs) h zero = h 0
take_below (suc k) (x ∷ xs) h (suc i) = take_below k xs (λ j. h (suc j)) i

-- Digits behind a number d, and before a text u.
behind : {b n c : ℕ} {t v : List ℕ} (d : ℕ) → Passes b t n c v → Passes (d + b) t n (d * 10 ^ n + c) v
unfolding extended
behind {b} d none = let same : d * 10 ^ 0 + b ≡ d + b = omega arith in rw same none
behind d (more {a} {b} {n} {c} {bs} {u} digit p) =
    let longer : d * 10 ^ suc n + c ≡ d * 10 * 10 ^ n + c = rw (pow-succ' 10 n) (omega arith) in
    let ten : (d + a) * 10 + (b - byte0) ≡ d * 10 + (a * 10 + (b - byte0)) = omega arith in
    let rest : Passes ((d + a) * 10 + (b - byte0)) bs n (d * 10 * 10 ^ n + c) u = rw ten (behind (d * 10) p) in
    rw longer (more digit rest)

before : {b n c : ℕ} {t v : List ℕ} (u : List ℕ) → Passes b t n c v → Passes b (t ++ u) n c (v ++ u)
before u none = none
before u (more digit p) = more digit (before u p)

-- Digits make behind any number what they make alone.
pub makes : {k r : ℕ} {t u : List ℕ} → Passes 0 t k r u → Makes k t r u
makes {k} {r} {t} {u} p =
    record { passes = λ a. subst (λ (m : ℕ). Passes m t k (a * 10 ^ k + r) u) (add-zero a) (behind a p) }

-- The first eight bytes of a text, where they spell a number.
pub eight : {v r : ℕ} (part t : List ℕ) → 8 ≤ length t → part ≡ take 8 t → Below 256 t → v ≡ from_le_bytes w64 part →
    Spells (bit_xor v 0x3030_3030_3030_3030) r → (8 ≤ length t) × (r < 100000000) × Makes 8 t r (drop 8 t)
eight {v} {r} part t inside is below e spells =
    let bytes : Below 256 part = rw is (take_below 8 t below) in
    let count : length part ≡ 8 = ap length is ∙ length-take-le 8 t inside in
    let read = e ∙ read_word part count in
    let all = spells.spells part count bytes (sym (aboves part count bytes) ∙ ap (λ (n : ℕ). bit_xor n 0x3030_3030_3030_3030) (sym read)) in
    let text : part ++ drop 8 t ≡ t = ap (λ (u : List ℕ). u ++ drop 8 t) is ∙ take-append-drop 8 t in
    (inside, all.0, makes (subst (λ (u : List ℕ). Passes 0 u 8 r (drop 8 t)) text (before (drop 8 t) all.1)))
