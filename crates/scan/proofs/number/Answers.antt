-- `scan::number` meets its contract: digits, and perhaps a point with digits behind it. Assumes nothing.
use Rattle.std.proofs.Common.{◌≡◌, false, length, ap, arith, length-drop}
use Rattle.std.proofs.lemmas.Bool.Decides.{nat_tests}
use Rattle.std.proofs.lemmas.List.{take_rest}
use Rattle.rules.specs.Bytes.{point}
use Rattle.scan.specs.Heads.{begins}
use Rattle.scan.proofs.Keeping.{nothing}
use Rattle.scan.proofs.Passing.{ends_then, ends_drop}
use Rattle.scan.proofs.Signing.{behind_byte, not_begun, sign_ends}
use Rattle.scan.proofs.Finding.{alone, no_decimals, decimals}
use Rattle.scan.proofs.number.Goals as goal
use Rattle.scan.proofs.number.Goals.{in_default-via-then-whole-lt1, in_default-via-else-whole-lt1+in_default-1}

pub whole-whole-requires : goal.whole-whole-requires
whole-whole-requires c = let rest = sign_ends c.requires.0 in omega (arith, rest.inside, c.requires.1)

pub finished-requires : goal.finished-requires
finished-requires c =
    let whole = c.whole-whole.ensures in
    let text = sign_ends c.requires.0 in
    (whole.ends, omega (arith, whole.goes.few, text.inside, c.requires.1), omega arith)

pub returns-in_default : goal.returns-in_default
returns-in_default c =
    let u = c.whole-whole.result.rest.now in
    let no_dot : begins point u ≡ false =
    elim c.in_default.branch [
      | in_default-via-then-whole-lt1 w ↦ not_begun point u (λ some is. grind (arith, nat_tests))
      | in_default-via-else-whole-lt1+in_default-1 w ↦ not_begun point u (λ some is. grind (arith, nat_tests))
    ] in
    alone c.requires.2 nothing c.whole-whole.ensures c.args.x.negative c.finished.result no_dot c.finished.ensures

pub decimals-all-requires : goal.decimals-all-requires
decimals-all-requires c =
    let u = c.whole-whole.result.rest.now in
    let goes = c.whole-whole.ensures.goes in
    let text = sign_ends c.requires.0 in
    let rest = ends_then text (ends_then goes.ends (ends_drop 1 u c.in-46.len_at_least)) in
    rw (take_rest u 1) (rest, omega (arith, goes.few, text.inside, c.requires.1, length-drop 1 u))

pub returns-then-n-eq0 : goal.returns-then-n-eq0
returns-then-n-eq0 c =
    let dot = behind_byte c.whole-whole.result.rest.now point c.in-46.len_at_least (omega arith) in
    no_decimals c.requires.2 nothing c.whole-whole.ensures dot c.decimals-all.ensures c.if-n-eq0.true

pub finished-requires-2 : goal.finished-requires-2
finished-requires-2 c =
    let u = c.whole-whole.result.rest.now in
    let whole = c.whole-whole.ensures in
    let all = c.decimals-all.ensures in
    let text = sign_ends c.requires.0 in
    let count = length-drop 1 u in
    let same = ap length (take_rest u 1) in
    (all.ends, omega (arith, all.goes.few, whole.goes.few, text.inside, c.requires.1, count, same), omega (arith, whole.goes.few, text.inside, c.requires.1, count, same))

pub returns : goal.returns
returns c =
    let dot = behind_byte c.whole-whole.result.rest.now point c.in-46.len_at_least (omega arith) in
    decimals c.requires.2 nothing c.whole-whole.ensures dot c.decimals-all.ensures c.args.x.negative c.finished-2.result (omega arith)
    c.finished-2.ensures
