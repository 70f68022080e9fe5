-- `reader::read_bits` meets its contract at either width: each case of the scan. Assumes nothing.
use mathlib.Core.List.{List}
use mathlib.Core.Path.{◌≡◌, subst}
use Prim.Native.Nat.{ℕ}
use Rattle.std.specs.Prelude.{Some}
use Rattle.rules.specs.Width.{w32, w64}
use Rattle.scan.specs.declared.Scanned.{Scanned}
use Rattle.scan.specs.Scans.{Scans}
use Rattle.reader.specs.Widths.{width_of}
use Rattle.reader.proofs.Answers.{nothing, a_nan, an_infinity, a_number, no_further}
use Rattle.reader.proofs.read_bits.Goals as goal

-- What is said of a scan is said of its case.
said : (t : List ℕ) {s r : Scanned} → s ≡ r → Scans t (Some s) → Scans t (Some r)
said t is scans = subst (λ (s : Scanned). Scans t (Some s)) is scans

pub signed-requires-then-wide-3 : goal.signed-requires-then-wide-3
signed-requires-then-wide-3 c = no_further w64 c.args.text.now c.in-Number.x c.magnitude.result (said c.args.text.now c.in-Number.is c.in_ok-scan.ensures) c.magnitude.ensures

pub signed-requires-else-wide-3 : goal.signed-requires-else-wide-3
signed-requires-else-wide-3 c =
    no_further w32 c.args.text.now c.in-Number.x c.magnitude-else-wide-3.result (said c.args.text.now c.in-Number.is c.in_ok-scan.ensures) c.magnitude-else-wide-3.ensures

pub returns-in_err-scan : goal.returns-in_err-scan
returns-in_err-scan c = rw c.from_residual.ensures (nothing (width_of c.args.wide) c.args.text.now c.requires.0 c.requires.1 c.in_err-scan.ensures)

pub returns-then-wide : goal.returns-then-wide
returns-then-wide c = rw c.if-wide.true (a_nan w64 c.args.text.now c.requires.0 c.requires.1 (said c.args.text.now c.in-NotANumber.is c.in_ok-scan.ensures) _ c.quiet_nan.ensures)

pub returns-else-wide : goal.returns-else-wide
returns-else-wide c = rw c.if-wide.false (a_nan w32 c.args.text.now c.requires.0 c.requires.1 (said c.args.text.now c.in-NotANumber.is c.in_ok-scan.ensures) _ c.quiet_nan-else-wide.ensures)

pub returns-then-wide-2 : goal.returns-then-wide-2
returns-then-wide-2 c =
    rw c.if-wide-2.true
    (an_infinity w64 c.args.text.now c.requires.0 c.requires.1 _ (said c.args.text.now c.in-Infinite.is c.in_ok-scan.ensures) _ _ c.infinity.ensures c.signed.ensures)

pub returns-else-wide-2 : goal.returns-else-wide-2
returns-else-wide-2 c =
    rw c.if-wide-2.false
    (an_infinity w32 c.args.text.now c.requires.0 c.requires.1 _ (said c.args.text.now c.in-Infinite.is c.in_ok-scan.ensures) _ _ c.infinity-else-wide-2.ensures c.signed-else-wide-2.ensures)

pub returns-then-wide-3 : goal.returns-then-wide-3
returns-then-wide-3 c =
    rw c.if-wide-3.true
    (a_number w64 c.args.text.now c.requires.0 c.requires.1 c.in-Number.x (said c.args.text.now c.in-Number.is c.in_ok-scan.ensures) _ c.magnitude.result c.magnitude.ensures c.signed-then-wide-3.ensures)

pub returns-else-wide-3 : goal.returns-else-wide-3
returns-else-wide-3 c =
    rw c.if-wide-3.false
    (a_number w32 c.args.text.now c.requires.0 c.requires.1 c.in-Number.x (said c.args.text.now c.in-Number.is c.in_ok-scan.ensures) _ c.magnitude-else-wide-3.result c.magnitude-else-wide-3.ensures
    c.signed-else-wide-3.ensures)
