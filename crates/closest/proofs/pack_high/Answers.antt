-- `closest::pack_high` meets its contract. Assumes nothing.
use mathlib.Core.Path.{◌≡◌, sym, ◌∙◌}
use Prim.Native.Nat.{ℕ, ◌+◌, ◌-◌, ◌*◌, ◌^◌, ◌≤◌, ◌<◌}
use native.Mathlib.Nat.{mul-le-mul_right}
use native.Mathlib.Omega.{arith}
use lib.Ieee.Nearest.{closest}
use Rattle.rules.specs.Width.{Width}
use Rattle.rules.specs.Reading.{nearest}
use Rattle.closest.specs.declared.Target.{Target}
use Rattle.closest.specs.Targets.{Targets, Sized}
use Rattle.closest.proofs.Packing.{placed, kept_most, kept_none, nearest-low, nearest_finite, nearest_infinite}
use Rattle.closest.proofs.pack_high.Goals as goal

-- The exponent's field, less the hidden bit.
abbrev field : ℕ → Target → ℕ
field e t = e + (63 - t.fraction) - t.base

-- Below the first full significand.
lower : (m e : ℕ) (t : Target) {w : Width} → Targets t w → Sized t → 2 ^ 63 ≤ m → m < 2 ^ 64 → e + (63 - t.fraction) < t.base →
    closest m (2 ^ (t.base - e)) ≡ nearest w (m * 2 ^ e) (2 ^ 1200)
lower m e t is sized high fits less = nearest-low is sized m e high fits (t.base - e) (omega arith) (omega arith)

pub returns-then-below-gt64 : goal.returns-then-below-gt64
returns-then-below-gt64 c w is =
    sym (kept_none c.args.m (c.args.t.base - c.args.e) (omega arith) (omega arith))
    ∙ lower c.args.m c.args.e c.args.t is c.requires.2 c.requires.0 (omega arith) (omega arith)

pub returns-then-e-cut : goal.returns-then-e-cut
returns-then-e-cut c w is =
    c.round_shift.ensures ∙ lower c.args.m c.args.e c.args.t is c.requires.2 c.requires.0 (omega arith) (omega arith)

pub returns-then-t-field : goal.returns-then-t-field
returns-then-t-field c w is =
    c.infinity.ensures
    ∙ nearest_infinite is c.requires.2 c.args.m c.args.e c.requires.0 (omega arith) (field c.args.e c.args.t) (omega arith) (omega arith)

pub overflow_add-result : goal.overflow_add-result
overflow_add-result c =
    let t = c.args.t in
    let x = field c.args.e t in
    let room : (x + 2) * 2 ^ t.fraction ≤ t.ones * 2 ^ t.fraction = mul-le-mul_right (2 ^ t.fraction) (omega arith) in
    rw c.from.ensures
    (omega (
      arith,
      placed c.requires.2 x (omega arith),
      c.round_shift-2.ensures,
      kept_most t.fraction (63 - t.fraction) c.args.m (omega arith) (omega arith) (63 - t.fraction) (omega arith),
      room,
      c.requires.2.fits,
    ))

pub returns : goal.returns
returns c w is =
    let x = field c.args.e c.args.t in
    rw c.from.ensures
    ((λ i. placed c.requires.2 x (omega arith) i + c.round_shift-2.ensures i)
    ∙ nearest_finite is c.requires.2 c.args.m c.args.e c.requires.0 (omega arith) x (omega arith) (omega arith))
