-- The text of every pattern has 3 to 25 bytes, and a call leaves a buffer as long as it was. Assumes nothing.
use mathlib.Core.Bool.{not}
use mathlib.Core.List.{List}
use mathlib.Core.Path.{◌≡◌}
use Prim.Native.Nat.{ℕ, ◌≤◌, ◌<◌}
use native.Mathlib.Nat.{pos_of_ne-zero}
use native.Mathlib.Omega.{arith}
use lib.Dec.{T, eqb, ltb, nltb→le, T_not}
use lib.ListN.{length}
use Rattle.laws.proofs.Branches.{either}
use Rattle.rules.specs.Bytes.{bytes}
use Rattle.rules.specs.Numbers.{numeral}
use Rattle.rules.specs.Width.{Width}
use Rattle.rules.specs.Pattern.{Pair, negative, significand, special, magnitude}
use Rattle.rules.specs.Digits.{decimal}
use Rattle.rules.specs.Layout.{layout}
use Rattle.rules.specs.Text.{shown, signed, text}
use Rattle.rules.specs.Answer.{Entry, number, after}
use Rattle.theorems.proofs.Counting.{length-numeral}
use Rattle.theorems.proofs.LayoutLength.{Spans, layout-length}
use Rattle.theorems.proofs.Boundaries.{Finite}
use Rattle.theorems.proofs.Scale.{finite}
use Rattle.theorems.proofs.Printable.{Printable}
use Rattle.theorems.proofs.Decimal.{printed}
use Rattle.theorems.proofs.Results.{left_length}

-- A length from 3 to n.
pub record Within (n : ℕ) (t : List ℕ) : Type 0 where
  pub least : 3 ≤ length t
  pub most : length t ≤ n

-- Where a text is printed there was room for it.
pub printed_room : (c : Entry) (w : Width) (v room : ℕ) → number c w v room ≡ 0 → 25 ≤ room
unfolding number
printed_room c w v room =
    either (λ (n : ℕ). n ≡ 0 → 25 ≤ room) (ltb room 25) (λ t e. absurd (omega arith)) (λ t e. nltb→le room 25 t)

module _ (w : Width) (q : ℕ) (p : Printable w q) where
  -- The digits of a finite magnitude, laid out.
  pub layout_within : (m : Pair) → Finite w m → Spans (numeral (decimal w m).len (decimal w m).digits) (layout (numeral (decimal w m).len (decimal w m).digits) (decimal w m).k)
  layout_within m h =
      let d = printed w q p m h in
      let n = length-numeral (decimal w m).len (decimal w m).digits in
      layout-length _ _ (omega (arith, d.some)) (omega (arith, d.few, p.few)) (omega (arith, d.near))

  -- It has more bytes than digits.
  pub layout_covers : (m : Pair) → Finite w m → (decimal w m).len < length (layout (numeral (decimal w m).len (decimal w m).digits) (decimal w m).k)
  layout_covers m h = omega (arith, (layout_within m h).covers, length-numeral (decimal w m).len (decimal w m).digits)

  -- A magnitude's text has 3 to 24 bytes.
  shown_within : (m : Pair) → (0 < m.f → Finite w m) → Within 24 (shown w m)
  unfolding shown bytes
  shown_within m h =
      either (Within 24) (eqb m.f 0) (λ t. record { least = omega arith; most = omega arith })
      (λ t.
      let s = layout_within m (h (above_zero m.f t)) in
      record { least = s.least; most = s.most })
    where
      above_zero : (n : ℕ) → T (not (eqb n 0)) → 0 < n
      above_zero n t = pos_of_ne-zero (λ e. T_not (eqb n 0) t (rw e tt))

  signed_within : (v : ℕ) (t : List ℕ) → Within 24 t → Within 25 (signed w v t)
  unfolding signed
  signed_within v t h =
      either (Within 25) (negative w v) (λ n. record { least = omega (arith, h.least); most = omega (arith, h.most) })
      (λ n. record { least = h.least; most = omega (arith, h.most) })

  -- The text of every pattern has 3 to 25 bytes.
  pub text-length : (v : ℕ) → Within 25 (text w v)
  unfolding text bytes
  text-length v =
      either (Within 25) (special w v)
      (λ t.
      either (Within 25) (eqb (significand w v) 0) (λ u. signed_within v (bytes "inf") (record { least = omega arith; most = omega arith }))
      (λ u. record { least = omega arith; most = omega arith }))
      (λ t. signed_within v (shown w (magnitude w v)) (shown_within (magnitude w v) (finite w v p.sound.finite t)))

  -- A call leaves a buffer as long as it was.
  pub after-length : (c : Entry) (v : ℕ) (buf : List ℕ) → length (after c w v buf) ≡ length buf
  unfolding after
  after-length c v buf = left_length (number c w v (length buf)) (text w v) buf (λ e. omega (arith, printed_room c w v (length buf) e, (text-length v).most))
