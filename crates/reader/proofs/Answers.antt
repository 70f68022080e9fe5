-- From what a scan says of a text to what is answered, over the width. Assumes nothing.
use mathlib.Core.Bool.{Bool, true, false}
use mathlib.Core.List.{List}
use mathlib.Core.Path.{◌≡◌, sym, ap, ◌∙◌}
use Prim.Native.Nat.{ℕ, ◌+◌, ◌-◌, ◌*◌, ◌%◌, ◌^◌, ◌≤◌, ◌<◌}
use native.Mathlib.Omega.{arith}
use lib.ListN.{length}
use lib.Pow.{pow_pos, pow-add, pow_mono}
use mir.Val.{bool_byte}
use Rattle.laws.proofs.Powers.{two_halves}
use Rattle.rules.specs.Width.{Width}
use Rattle.rules.specs.Pattern.{all_ones}
use Rattle.rules.specs.Reading.{Exact, refused, notANumber, infinite, number, exact, infinity, with_sign}
use Rattle.rules.specs.Reader.{Reading, quiet_nan, answered, unread, reading}
use Rattle.theorems.proofs.Halfway.{no_more}
use Rattle.theorems.proofs.ReadLength.{in_length}
use Rattle.theorems.proofs.ReadBack.{Pattern}
use Rattle.patterns.specs.Numbers.{Numbers}
use Rattle.closest.proofs.Packing.{one_shifted}
use Rattle.scan.specs.declared.Decimal.{Decimal}
use Rattle.scan.specs.Scans.{Says}
use Rattle.reader.specs.Reads.{Reads}

module _ (w : Width) (t : List ℕ) (some : 0 < length t) (few : length t ≤ 64) where
  -- What the text says is what is answered to.
  saying : (x : Exact) → exact t ≡ x → answered w x ≡ reading w t
  saying x says = sym (in_length w t some few ∙ ap (answered w) says)

  pub nothing : exact t ≡ refused → record { number = 11; pattern = 0 } ≡ reading w t
  unfolding answered
  nothing says = saying refused says

  pub a_nan : exact t ≡ notANumber → (v : ℕ) → v ≡ quiet_nan w → Pattern v ≡ reading w t
  unfolding answered
  a_nan says v is = ap Pattern is ∙ saying notANumber says

  pub an_infinity : (s : Bool) → exact t ≡ infinite s → (v m : ℕ) → m ≡ infinity w → v ≡ with_sign w s m → Pattern v ≡ reading w t
  unfolding answered
  an_infinity s says v m top is = ap Pattern (is ∙ ap (with_sign w s) top) ∙ saying (infinite s) says

  pub a_number : (x : Decimal) → Says t x → (v m : ℕ) → Reads w t x m → v ≡ with_sign w x.negative m → Pattern v ≡ reading w t
  unfolding answered
  a_number x s v m reads is = ap Pattern (is ∙ ap (with_sign w x.negative) (reads s)) ∙ saying (number x.negative _ _) s.says

-- A number reads as no pattern beyond the infinity.
pub no_further : (w : Width) (t : List ℕ) (x : Decimal) (m : ℕ) → Says t x → Reads w t x m → m ≤ infinity w
no_further w t x m s reads = rw (reads s) (no_more w _ _)

-- No answer's pattern is beyond the quiet NaN with a sign.
module _ (w : Width) where
  abbrev InWidth : Reading → Type 0
  InWidth a = a.pattern ≤ 2 ^ (w.bits - 1) + quiet_nan w

  says_in_width : (x : Exact) → InWidth (answered w x)
  unfolding answered quiet_nan with_sign
  says_in_width refused = omega arith
  says_in_width notANumber = omega arith
  says_in_width (infinite true) = omega arith
  says_in_width (infinite false) = omega arith
  says_in_width (number true n d) = omega (arith, no_more w n d)
  says_in_width (number false n d) = omega (arith, no_more w n d)

  pub in-width : (t : List ℕ) → InWidth (reading w t)
  unfolding reading
  in-width t = by (unread (length t))
    where
      by : (b : Bool) → InWidth (elim b [ true ↦ record { number = 10; pattern = 0 } | false ↦ answered w (exact t) ])
      by true = omega arith
      by false = says_in_width (exact t)

-- ---- a pattern with a sign, by a width's numbers
module _ (w : Width) {size fraction bias ones pair : ℕ} (its : Numbers w size fraction bias ones pair) where
  -- The exponent's field and the significand are all bits but the sign's.
  top_is : infinity w + 2 ^ w.S ≡ 2 ^ (w.bits - 1)
  unfolding infinity all_ones
  top_is =
      let n = w.bits - 1 - w.S in
      let split : 2 ^ (w.bits - 1) ≡ 2 ^ n * 2 ^ w.S = ap (λ (k : ℕ). 2 ^ k) (omega (arith, its.field)) ∙ pow-add 2 n w.S in
      let one : all_ones w + 1 ≡ 2 ^ n = ones_is (2 ^ n) (pow_pos n) in
      omega (arith, split, ap (λ (k : ℕ). k * 2 ^ w.S) one)
    where
      ones_is : (n : ℕ) → 0 < n → n - 1 + 1 ≡ n
      ones_is n some = omega arith

  sign_is : 2 ^ w.bits ≡ 2 * 2 ^ (w.bits - 1)
  sign_is = two_halves w.bits (omega (arith, its.field))

  -- A sign is a bit to add ..
  pub by_addition : (negative : Bool) (s v : ℕ) → s ≡ w.bits → bool_byte negative * 2 ^ (s - 1) % 2 ^ 64 + v ≡ with_sign w negative v
  unfolding with_sign
  by_addition true s v is = ap (λ (n : ℕ). n + v) (one_shifted (s - 1) (omega (arith, is, its.word, its.field)) ∙ ap (λ (n : ℕ). 2 ^ (n - 1)) is)
  by_addition false s v is = omega arith

  -- .. and the width has a place for it.
  pub sign_fits : (negative : Bool) (v : ℕ) → v ≤ infinity w → with_sign w negative v < 2 ^ w.bits
  unfolding with_sign
  sign_fits true v most = omega (arith, top_is, sign_is, pow_pos w.S)
  sign_fits false v most = omega (arith, top_is, sign_is, pow_pos w.S)

  -- It has 64 bits at most.
  pub word_fits : 2 ^ w.bits ≤ 2 ^ 64
  word_fits = pow_mono {i = w.bits} {j = 64} its.word

  -- The quiet NaN has a place too.
  pub nan_is : (s : ℕ) → s ≡ w.S → infinity w + 1 * 2 ^ (s - 1) % 2 ^ 64 ≡ quiet_nan w
  unfolding quiet_nan
  nan_is s is = ap (λ (n : ℕ). infinity w + n) (one_shifted (s - 1) (omega (arith, is, its.few)) ∙ ap (λ (n : ℕ). 2 ^ (n - 1)) is)

  pub nan_fits : quiet_nan w < 2 ^ w.bits
  unfolding quiet_nan
  nan_fits = omega (arith, top_is, sign_is, two_halves w.S its.some, pow_pos (w.S - 1))

  -- So every answer's pattern has the width's bits.
  pub has_room : (t : List ℕ) → (reading w t).pattern < 2 ^ w.bits
  unfolding quiet_nan
  has_room t = omega (arith, in-width w t, top_is, sign_is, two_halves w.S its.some, pow_pos (w.S - 1))
