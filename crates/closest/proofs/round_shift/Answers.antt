-- `closest::round_shift` meets its contract. Assumes nothing.
use mathlib.Core.Logic.{inl, inr}
use mathlib.Core.Path.{◌≡◌, sym, ap, ◌∙◌}
use Prim.Native.Nat.{ℕ, ◌-◌, ◌*◌, ◌/◌, ◌%◌, ◌^◌}
use native.Mathlib.Nat.{mod-eq_of_lt, div-mul-le_self, lt_of_le_of_lt}
use native.Mathlib.Omega.{arith}
use lib.Ieee.Nearest.{closest}
use lib.Pow.{pow_pos}
use Rattle.laws.proofs.Powers.{two_halves}
use Rattle.closest.proofs.Halving.{Upward, rounded}
use Rattle.closest.proofs.round_shift.Goals as goal
use Rattle.closest.proofs.round_shift.Goals.{Joined-doubled-j, Start, then-doubled-j, else-doubled-j}

-- Half of the unit.
abbrev unit : Start → ℕ
unit s = 2 ^ (s.args.j - 1)

-- Shifted back, the quotient loses no bit.
back : (s : Start) → s.args.m / unit s * unit s % 2 ^ 64 ≡ s.args.m / unit s * unit s
back s = mod-eq_of_lt (lt_of_le_of_lt (div-mul-le_self s.args.m (unit s)) (omega arith))

upward : (c : Joined-doubled-j) → Upward c.args.m (unit c.before) c.if-doubled-j.up
upward c =
    elim c.if-doubled-j.branch [
      | then-doubled-j w ↦ inl ((λ e. w.if-doubled-j.true (back c.before ∙ e)), w.up-is)
      | else-doubled-j w ↦ inr (sym (back c.before) ∙ w.if-doubled-j.false, w.up-is)
    ]

pub returns : goal.returns
returns c =
    rounded c.args.m (unit c.before.before) c.if-doubled-j.up (pow_pos (c.args.j - 1)) (upward c.before)
    ∙ ap (closest c.args.m) (sym (two_halves c.args.j c.requires.0))
