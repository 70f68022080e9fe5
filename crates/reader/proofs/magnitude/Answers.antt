-- `reader::magnitude` meets its contract, each return by its own law. Assumes nothing.
use mathlib.Core.Bool.{false}
use mathlib.Core.Logic.{⊎_elim}
use mathlib.Core.Path.{◌≡◌, sym, subst}
use Prim.Native.Nat.{ℕ, ◌≤◌, ◌<◌}
use native.Mathlib.Omega.{arith}
use Rattle.std.proofs.Common.{rules}
use Rattle.reader.specs.Reads.{Reads}
use Rattle.reader.specs.Scaled.{Untabled, Scales}
use Rattle.reader.proofs.Magnitudes.{without_digits, too_small, too_large, shown_at_once, found_quickly}
use Rattle.reader.proofs.magnitude.Goals as goal

-- What is beyond the table, with digits and not below it, is above it.
above : {digits place : ℕ} → Untabled digits place → (digits ≡ 0 → ⊥) → 9758 ≤ place → 10408 < place
above untabled some first = ⊎_elim (λ none. absurd (some none)) (λ beyond. ⊎_elim (λ below. omega arith) (λ last. last) beyond) untabled

pub returns-then-x-lt-FIRST : goal.returns-then-x-lt-FIRST
returns-then-x-lt-FIRST g c =
    let w = g.P.Pattern.width in
    let spanned = g.met.P.Pattern.spanned in
    ⊎_elim (without_digits w spanned c.args.text.now c.args.x) (λ below. too_small w spanned c.args.text.now c.args.x below.1) c.if-x-lt-FIRST.either

pub returns-else-x-lt-FIRST : goal.returns-else-x-lt-FIRST
returns-else-x-lt-FIRST g c =
    let w = g.P.Pattern.width in
    let x = c.args.x in
    let some = c.if-x-lt-FIRST.false.0 in
    let untabled = subst (Scales x.held.digits x.place) c.in_default.is c.requires.scaled in
    subst (Reads w c.args.text.now x) (sym c.infinity.ensures)
    (too_large w g.met.P.Pattern.spanned c.args.text.now x (omega (arith, some)) (above untabled some c.if-x-lt-FIRST.false.1))

pub returns-in-Some-quickly : goal.returns-in-Some-quickly
returns-in-Some-quickly g c =
    let all : c.args.x.held.more ≡ false = search rules in
    found_quickly g.P.Pattern.width g.met.P.Pattern.spanned c.args.text.now c.args.x _ all c.in-Some-quickly.ensures

pub returns-in-Some-at_once : goal.returns-in-Some-at_once
returns-in-Some-at_once g c =
    let w = g.P.Pattern.width in
    let x = c.args.x in
    shown_at_once w g.met.P.Pattern.spanned c.args.text.now x _ _ (subst (Scales x.held.digits x.place) c.in-Some.is c.requires.scaled) _
    (c.in-Some-at_once.ensures w g.met.P.Pattern.spanned.readable c.of.ensures.0)
