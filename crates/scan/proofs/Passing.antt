-- Digits at the head of a text, what passes over them, and the ends of a text. Assumes nothing.
use Rattle.std.proofs.Common.{◌≡◌, ℕ, suc, ◌+◌, ◌-◌, ◌<◌, ◌≤◌, Bool, true, false, ◌&&◌, T, not, ltb, MatchOption, ⊎_elim, leb, List, [], ◌∷◌, length, get_or, drop, sym, refl, ap, ◌∙◌, add-zero, suc-add, zero-add, add-one, arith, le→leb, ltb→lt, lt→ltb, leb→le, nltb→le, drop-cons, drop-drop, length-drop}
use native.Mathlib.Nat.{sub_self}
use Rattle.std.specs.Bool.{MatchBool, then_some}
use Rattle.std.specs.Char.{IsAsciiDigit, IsNotAsciiDigit}
use Rattle.laws.proofs.Branches.{which, is_true, and_left, and_right, and_both}
use Rattle.rules.specs.Bytes.{byte0}
use Rattle.rules.specs.Reading.{is_digit, extended}
use Rattle.scan.specs.Heads.{starts}
use Rattle.scan.specs.Passes.{Passes, none, more, Makes, Ends}

-- The bytes that are digits.
pub digit_range : (b : ℕ) → is_digit b ≡ true → (byte0 ≤ b) × (b < byte0 + 10)
unfolding is_digit
digit_range b e =
    let t : T (leb byte0 b && ltb b (byte0 + 10)) = rw e tt in
    (leb→le byte0 b (and_left (leb byte0 b) (ltb b (byte0 + 10)) t), ltb→lt b (byte0 + 10) (and_right (leb byte0 b) (ltb b (byte0 + 10)) t))

pub in_range : (b : ℕ) → byte0 ≤ b → b < byte0 + 10 → is_digit b ≡ true
unfolding is_digit
in_range b least most =
    let low = leb byte0 b in
    let high = ltb b (byte0 + 10) in
    is_true (low && high) (and_both low high (le→leb byte0 b least) (lt→ltb b (byte0 + 10) most))

pub out_of_range : (b : ℕ) → (byte0 ≤ b → byte0 + 10 ≤ b) → is_digit b ≡ false
out_of_range b apart = told (is_digit b) (λ e. let range = digit_range b e in omega (arith, range.1, apart range.0))
  where
    told : (t : Bool) → (t ≡ true → ⊥) → t ≡ false
    told true f = absurd (f refl)
    told false f = refl

-- The library's digits are these.
pub ascii : (b : ℕ) (r : Bool) → MatchBool r (IsAsciiDigit b) (IsNotAsciiDigit b) → is_digit b ≡ r
ascii b true is = in_range b (omega arith) (omega arith)
ascii b false other = out_of_range b (λ least. omega arith)

-- A byte less the digit 0, with what wraps around, is below 10 at a digit alone.
pub value_of : (b v : ℕ) → (byte0 ≤ b → v ≡ b - byte0) → (b < byte0 → 10 ≤ v) →
    MatchOption (then_some (ltb v 10) v) (is_digit b ≡ false) (λ x. (is_digit b ≡ true) × (x ≡ b - byte0))
value_of b v inside below = by (ltb v 10) (ltb→lt v 10) (nltb→le v 10)
  where
    by : (t : Bool) → (T t → v < 10) → (T (not t) → 10 ≤ v) → MatchOption (then_some t v) (is_digit b ≡ false) (λ x. (is_digit b ≡ true) × (x ≡ b - byte0))
    by true less many =
        let few = less tt in
        let least : byte0 ≤ b = ⊎_elim (λ low. absurd (omega (arith, below low))) (λ l. l) (which b byte0) in
        (in_range b least (omega (arith, inside least)), inside least)
    by false less many = let none = many tt in out_of_range b (λ least. omega (arith, inside least))

-- The text from a place on is the byte there and the rest.
pub cons : (s : List ℕ) (i : ℕ) → i < length s → drop i s ≡ get_or s i 0 ∷ drop (i + 1) s
cons s i h = rw (add-one, drop-cons s i 0 h)

-- A text begins with a digit where its first byte is one, and not where it is empty.
pub starts_byte : (t : List ℕ) (d : Bool) → 0 < length t → is_digit (get_or t 0 0) ≡ d → starts t ≡ d
unfolding starts
starts_byte [] d some is = absurd (omega arith)
starts_byte (b ∷ bs) d some is = is

pub starts_end : (t : List ℕ) → length t < 1 → starts t ≡ false
unfolding starts
starts_end [] few = refl
starts_end (b ∷ bs) few = absurd (omega arith)

-- Some digits, and then some more.
pub joined : {a m b n c : ℕ} {t u v : List ℕ} → Passes a t m b u → Passes b u n c v → Passes a t (m + n) c v
joined {n = n} none q = rw (zero-add n) q
joined {n = n} (more {n = m} d p) q = rw (suc-add m n) (more d (joined p q))

-- What steps over each digit steps over all of them.
pub along {ℓ} : {A : Type ℓ} (f : ℕ → ℕ → List ℕ → A) →
    ((x m b : ℕ) (bs : List ℕ) → is_digit b ≡ true → f x m (b ∷ bs) ≡ f (extended x b) (suc m) bs) →
    {a n c : ℕ} {t u : List ℕ} (m : ℕ) → Passes a t n c u → f a m t ≡ f c (m + n) u
along f step m none = rw (add-zero m)
along f step m (more {a} {b} {n} {c} {bs} {u} d p) =
    let later : m + suc n ≡ suc m + n = omega arith in
    rw later (step a m b bs d ∙ along f step (suc m) p)

-- One digit.
pub one : (t : List ℕ) (i v : ℕ) → i < length t → is_digit (get_or t i 0) ≡ true → v ≡ get_or t i 0 - byte0 → Makes 1 (drop i t) v (drop (i + 1) t)
unfolding extended
one t i v inside digit is = record { passes = λ a. rw (cons t i inside, is) (more digit none) }

-- ---- the ends of a text

-- All of it.
pub ends_all : (t : List ℕ) → Ends t t
ends_all t = record { inside = omega arith; is = rw (sub_self (length t)) refl }

-- What is left without its first bytes.
pub ends_drop : (k : ℕ) (t : List ℕ) → k ≤ length t → Ends t (drop k t)
ends_drop k t h =
    let left = length-drop k t in
    let back : length t - (length t - k) ≡ k = omega arith in
    record { inside = omega (arith, left); is = rw (left, back) refl }

-- The end of an end.
pub ends_then : {t u v : List ℕ} → Ends t u → Ends u v → Ends t v
ends_then {t} {u} {v} p q =
    let sum : (length t - length u) + (length u - length v) ≡ length t - length v = omega (arith, p.inside, q.inside) in
    record {
      inside = omega (arith, p.inside, q.inside);
      is = ap (λ (k : ℕ). drop k t) (sym sum) ∙ sym (drop-drop (length u - length v) (length t - length u) t)
          ∙ ap (drop (length u - length v)) p.is ∙ q.is;
    }

-- What is behind digits, and how many of them there are.
pub passed_ends : {a n c : ℕ} {t u : List ℕ} → Passes a t n c u → Ends t u
passed_ends (none {a} {t}) = ends_all t
passed_ends (more {a} {b} {n} {c} {bs} {u} d p) = ends_then (ends_drop 1 (b ∷ bs) (omega arith)) (passed_ends p)

pub passed_count : {a n c : ℕ} {t u : List ℕ} → Passes a t n c u → length t ≡ n + length u
passed_count none = omega arith
passed_count (more d p) = omega (arith, passed_count p)
