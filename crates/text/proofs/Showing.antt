-- The text of a finite magnitude: `0.0`, or its digits laid out in the buffer that holds them. Assumes nothing.
use mathlib.Core.Bool.{not}
use mathlib.Core.List.{List, [], ◌∷◌}
use mathlib.Core.Path.{◌≡◌, refl, sym, ap, ap₂, ◌∙◌}
use Prim.Native.Nat.{ℕ, ◌≤◌, ◌<◌}
use native.Mathlib.Nat.{pos_of_ne-zero}
use native.Mathlib.Omega.{arith}
use lib.Dec.{T, eqb, T_not}
use lib.Ieee.Fits.{eq→eqb}
use lib.IntN.{nat_abs}
use lib.ListN.{length, take}
use lib.Seq.{take_at}
use Rattle.laws.specs.Puts.{Puts}
use Rattle.laws.proofs.Branches.{taken}
use Rattle.laws.proofs.Puts.{kept, from_start, over}
use Rattle.laws.proofs.Signed.{read, unchanged, small_apart}
use Rattle.rules.specs.Bytes.{bytes}
use Rattle.rules.specs.Numbers.{numeral}
use Rattle.rules.specs.Width.{Width}
use Rattle.rules.specs.Pattern.{Pair, special, magnitude}
use Rattle.rules.specs.Digits.{decimal}
use Rattle.rules.specs.Layout.{layout}
use Rattle.rules.specs.Text.{shown}
use Rattle.theorems.proofs.Boundaries.{Finite}
use Rattle.theorems.proofs.Counting.{length-numeral}
use Rattle.theorems.proofs.Scale.{finite}
use Rattle.theorems.proofs.Printable.{Printable}
use Rattle.theorems.proofs.Decimal.{printed}
use Rattle.theorems.proofs.RoundTrip.{laid_text}
use Rattle.theorems.proofs.TextLength.{layout_covers}
use Rattle.grisu.specs.declared.Decimal.{Decimal}
use Rattle.grisu.specs.Grisu.{Decided}
use Rattle.layout.specs.Layout.{Laying}

-- A magnitude that is zero shows `0.0`.
pub shows_zero : (w : Width) (m : Pair) → T (eqb m.f 0) → shown w m ≡ 48 ∷ 46 ∷ 48 ∷ []
unfolding shown bytes
shows_zero w m h = taken _ (eqb m.f 0) h refl

above_zero : (n : ℕ) → T (not (eqb n 0)) → 0 < n
above_zero n h = pos_of_ne-zero (λ e. T_not (eqb n 0) h (eq→eqb e))

module _ {w : Width} {q : ℕ} (p : Printable w q) where
  -- A finite pattern whose magnitude is not zero.
  pub is_finite : (v : ℕ) → T (not (special w v)) → T (not (eqb (magnitude w v).f 0)) → Finite w (magnitude w v)
  is_finite v ordinary some = finite w v p.sound.finite ordinary (above_zero (magnitude w v).f some)

  module _ {m : Pair} (f : Finite w m) {n : Decimal} {old mid : List ℕ} (d : Decided w m n old mid) where
    -- Its digits can be laid out.
    pub lays : 24 ≤ length old → Laying n.len (length mid)
    lays room =
        let t = printed w q p m f in
        record {
          some = omega (arith, d.length_is, t.some);
          few = omega (arith, d.length_is, t.few, p.few);
          roomy = omega (arith, kept d.text);
        }

    -- Its exponent is read as it was written, and small.
    pub exponent_back : read n.k ≡ n.k
    exponent_back =
        let t = printed w q p m f in
        unchanged {a = t.up} {b = t.down} (record { is = d.exponent_is ∙ t.k_is }) (small_apart t.up t.down (rw t.k_is at t.near))

    pub exponent_small : nat_abs (read n.k) < 900
    exponent_small = rw (exponent_back, d.exponent_is) (printed w q p m f).near

    -- What is laid out over the digits is the magnitude's text.
    pub shows : {new : List ℕ} {next : ℕ} → Puts (layout (take n.len mid) (read n.k)) mid 0 new next → Puts (shown w m) old 0 new next
    shows laid =
        let digits = numeral (decimal w m).len (decimal w m).digits in
        let long = length-numeral (decimal w m).len (decimal w m).digits in
        let first : take n.len mid ≡ digits = ap (take n.len) (from_start d.text) ∙ take_at digits _ n.len (long ∙ sym d.length_is) in
        let text : layout (take n.len mid) (read n.k) ≡ layout digits (decimal w m).k = ap₂ layout first (exponent_back ∙ d.exponent_is) in
        rw (laid_text w m f.some) (over d.text (rw text at laid) (omega (arith, layout_covers w q p m f)))
