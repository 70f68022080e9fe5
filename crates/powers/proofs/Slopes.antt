-- The binary exponents of a table lie on a line, rounded down: tested at each entry. Assumes nothing.
use mathlib.Core.Path.{◌≡◌, ◌∙◌}
use Prim.Native.Nat.{ℕ, ◌+◌, ◌^◌, ◌≤◌, ◌<◌}
use native.Mathlib.Nat.{le_antisymm, zero-add}
use native.Mathlib.Omega.{arith}
use lib.Dec.{T}
use lib.IntN.{pos, sub_ℕ, ◌-ℤ◌}
use lib.ListN.{get_or}
use mir.Syntax.{w32}
use mir.Val.{to_z}
use Rattle.laws.proofs.Signed.{read, Held, natural, less}
use Rattle.laws.proofs.Tests.{Holds, up_to, every}
use Rattle.rules.specs.Width.{Width}
use Rattle.powers.specs.Lines.{line, test}

module _ (w : Width) (start n : ℕ) (t : T (up_to (test w start) n)) (i : ℕ) (inside : i < n) (small : line start i < 2 ^ 31)
    (near : w.twos ≤ 2 ^ 31) where
  -- Less `twos`, an i32 holds it ..
  pub holds : Held (to_z w32 (line start i) -ℤ pos w.twos) (line start i) (0 + w.twos)
  holds = less w.twos (natural small) (omega arith)

  -- .. and it is the exponent.
  pub exponent : read (to_z w32 (line start i) -ℤ pos w.twos) ≡ sub_ℕ (get_or w.exponents i 0) w.twos
  exponent = holds.back.is ∙ (λ k. sub_ℕ (on_line k) (zero-add w.twos k))
    where
      told : Holds (test w start i) → line start i ≡ get_or w.exponents i 0
      told (most, least) = le_antisymm most least

      on_line : line start i ≡ get_or w.exponents i 0
      on_line = told (every (test w start) n t i inside)
