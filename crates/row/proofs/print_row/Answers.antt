-- `row::print_row` meets its contract: each text but the last with a space behind it. Assumes nothing.
use mathlib.Core.List.{map}
use mathlib.Core.Path.{◌≡◌}
use native.Mathlib.Omega.{arith}
use lib.ListN.{length, length-map}
use Rattle.laws.proofs.Puts.{part}
use Rattle.row.proofs.Joining.{count, before_last, last_one, start, end, space-room, next, last}
use Rattle.row.proofs.print_row.Goals as goal

pub returns-in_default : goal.returns-in_default
returns-in_default g c =
    let none : length (map g.P.Pattern.number c.args.patterns.now) ≡ 0 = rw length-map (omega (arith, c.in_default.ensures.cases)) in
    end {out = c.args.out.now} (start (omega (arith, none))) (omega (arith, none))

pub byte-at-requires : goal.byte-at-requires
byte-at-requires g c =
    let is = c.in-Some.ensures.cases.0 in
    let here = before_last g.P.Pattern.number _ _ _ is c.loop-pattern.pattern-index c.pattern-item.result c.pattern-item.is c.loop-pattern-test.true in
    space-room c.loop-pattern.invariant g.met.P.Pattern.printable (rw here (part _ (omega arith) c.print-at.ensures))
    (omega (arith, count g.P.Pattern.number _ _ _ is))

pub loop-pattern-preserved : goal.loop-pattern-preserved
loop-pattern-preserved g c =
    let is = c.in-Some.ensures.cases.0 in
    let here = before_last g.P.Pattern.number _ _ _ is c.loop-pattern.pattern-index c.pattern-item.result c.pattern-item.is c.loop-pattern-test.true in
    next c.loop-pattern.invariant g.met.P.Pattern.printable (rw here (part _ (omega arith) c.print-at.ensures))
    (omega (arith, count g.P.Pattern.number _ _ _ is)) c.byte-at.ensures

pub returns : goal.returns
returns g c =
    let is = c.in-Some.ensures.cases.0 in
    let i = c.loop-pattern.pattern-index in
    let all : length c.in-Some.others.now ≡ i = omega arith in
    let many = count g.P.Pattern.number _ _ _ is in
    end (last c.loop-pattern.invariant g.met.P.Pattern.printable (rw (last_one g.P.Pattern.number _ _ _ is i all) (part _ (omega arith) c.print-last_len.ensures)) (omega (arith, many)))
    (omega (arith, many))
