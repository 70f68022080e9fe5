-- What each turn of the search for a pattern knows. Assumes nothing.
use mathlib.Core.Path.{sym}
use Prim.Native.Nat.{ℕ, ◌+◌, ◌*◌, ◌%◌, ◌^◌, ◌≤◌, ◌<◌, min}
use native.Mathlib.Nat.{le_antisymm, le_trans}
use native.Mathlib.Omega.{arith}
use Rattle.laws.proofs.Powers.{ten_pos}
use Rattle.rules.specs.Width.{Width}
use Rattle.rules.specs.Reading.{infinity}
use Rattle.theorems.proofs.Halfway.{below_midpoint, at_midpoint, above_midpoint, no_more}
use Rattle.theorems.proofs.Readable.{Readable}
use Rattle.std.specs.declared.cmp.Ordering.TheVariants.{Less, Equal, Greater}
use Rattle.settle.specs.Settles.{Side, Reading, Settles}

module _ (w : Width) (a tens least most : ℕ) where
  -- The patterns below p are ruled out.
  abbrev pub Reached : ℕ → Type 0
  Reached p = Reading w a tens least most (λ n. p ≤ n)

  module _ (p : ℕ) (reached : Reached p) where
    -- No pattern is behind the last one, nor behind the infinity.
    pub at_last : min most (infinity w) ≤ p → Settles w a tens least most (min most (infinity w))
    at_last end up down at lo hi =
        le_antisymm (le_trans end (reached up down at lo hi)) (omega (arith, hi, no_more w (a * 10 ^ up) (10 ^ down)))

    module _ (r : Readable w) (inside : p < infinity w) where
      -- Below the midpoint above p it is p.
      pub when_below : Side w a tens p Less → Settles w a tens least most p
      when_below side up down at lo hi =
          le_antisymm (reached up down at lo hi) (below_midpoint w r (a * 10 ^ up) (10 ^ down) p (ten_pos down) inside (side up down at))

      -- At the midpoint it is the even one.
      pub when_equal : Side w a tens p Equal → Settles w a tens least most (p + p % 2)
      when_equal side up down at lo hi = sym (at_midpoint w r (a * 10 ^ up) (10 ^ down) p (ten_pos down) inside (side up down at))

      -- Above it p is ruled out too.
      pub when_above : Side w a tens p Greater → Reached (p + 1)
      when_above side up down at lo hi =
          omega (arith, above_midpoint w r (a * 10 ^ up) (10 ^ down) p (ten_pos down) inside (side up down at))
