-- What a scanned number reads as, by each of the ways of reading it. Assumes nothing.
use mathlib.Core.Bool.{Bool, true, false}
use mathlib.Core.List.{List}
use mathlib.Core.Path.{◌≡◌, sym, ap, subst, ◌∙◌}
use Prim.Native.Nat.{ℕ, ◌+◌, ◌-◌, ◌*◌, ◌^◌, ◌<◌}
use native.Mathlib.Nat.{le_antisymm}
use native.Mathlib.Omega.{arith}
use lib.ListN.{length, take, drop}
use lib.Pow.{pow-add}
use mir.Val.{bool_byte}
use Rattle.std.proofs.lemmas.List.{take_rest}
use Rattle.rules.specs.Width.{Width}
use Rattle.rules.specs.Reading.{infinity, nearest}
use Rattle.scan.specs.declared.Decimal.{Decimal}
use Rattle.scan.specs.Kept.{Kept}
use Rattle.scan.specs.Mantissa.{mantissa, behind_sign}
use Rattle.scan.specs.Scans.{Says}
use Rattle.fast.specs.Quick.{Finds}
use Rattle.bounds.specs.Around.{Within, AtOnce, Around}
use Rattle.settle.specs.Settles.{Settles}
use Rattle.patterns.specs.Spanned.{Spanned}
use Rattle.reader.specs.Reads.{Reads}
use Rattle.reader.specs.Scaled.{Scaled}
use Rattle.reader.proofs.Extremes.{reads_zero, reads_infinity, zero_reads}

-- A number's digits begin behind its sign.
pub from_sign : (negative : Bool) (t : List ℕ) → take (length t - bool_byte negative) (drop (bool_byte negative) t) ≡ behind_sign negative t
unfolding behind_sign
from_sign true t = take_rest t 1
from_sign false t = take_rest t 0

module _ (w : Width) (spanned : Spanned w) (t : List ℕ) (x : Decimal) where
  -- No digit but 0.
  pub without_digits : x.held.digits ≡ 0 → Reads w t x 0
  without_digits none s =
      let a = mantissa 0 (behind_sign x.negative t) in
      sym (zero_reads w spanned a x.held.dropped s.up s.down x.held.more (subst (λ (n : ℕ). Kept a n x.held.dropped x.held.more) none s.kept))

  -- A place below the table.
  pub too_small : x.place < 9758 → Reads w t x 0
  too_small less s = sym (reads_zero w spanned _ x.held.digits x.held.dropped s.up s.down x.place x.held.more s.kept s.place less)

  -- A place beyond it.
  pub too_large : 0 < x.held.digits → 10408 < x.place → Reads w t x (infinity w)
  too_large some more s = sym (reads_infinity w spanned _ x.held.digits x.held.dropped s.up s.down x.place x.held.more s.kept s.place some more)

  -- A place in the table, with the product that bounds the number.
  module _ (m e : ℕ) (scaled : Scaled x.held.digits x.place m e) where
    -- It shows the pattern at once.
    pub shown_at_once : (v : ℕ) → AtOnce w m x.held.more e v → Reads w t x v
    shown_at_once v decides s = decides _ _ _ x.held.dropped s.up s.down scaled.bounds s.kept (omega (arith, s.place, scaled.first))

    module _ (least most : ℕ) (around : Around w m x.held.more e least most) where
      within : (s : Says t x) → Within (nearest w (mantissa 0 (behind_sign x.negative t) * 10 ^ s.up) (10 ^ s.down)) least most
      within s = around _ _ _ x.held.dropped s.up s.down scaled.bounds s.kept (omega (arith, s.place, scaled.first))

      -- Both ends are one.
      pub by_table : least ≡ most → Reads w t x least
      by_table same s = let e = within s in le_antisymm e.above (omega (arith, e.below))

      -- They are not, and the number was compared.
      pub by_comparison : (r : ℕ) → Settles w (mantissa 0 (behind_sign x.negative t)) (x.place - x.held.dropped) least most r → Reads w t x r
      by_comparison r settles s = let e = within s in settles s.up s.down (omega (arith, s.place, s.few)) e.above e.below

  -- The quick way, where no digit is left out.
  pub found_quickly : (v : ℕ) → x.held.more ≡ false → Finds w x.held.digits x.place v → Reads w t x v
  found_quickly v all finds s =
      finds (s.up + x.held.dropped) s.down s.place
      ∙ ap (λ (n : ℕ). nearest w n (10 ^ s.down)) (rw (pow-add 10 s.up x.held.dropped, s.kept.whole all) (omega arith))
