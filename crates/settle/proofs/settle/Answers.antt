-- `settle::settle` meets its contract: each turn rules a pattern out, or ends at the one that the number reads as. Assumes nothing.
use mathlib.Core.Path.{sym, ap, ◌∙◌}
use Prim.Native.Nat.{ℕ, min}
use native.Mathlib.Omega.{arith}
use Rattle.closest.proofs.Packing.{top_is}
use Rattle.settle.proofs.Settling.{at_last, when_below, when_equal, when_above}
use Rattle.settle.proofs.settle.Goals as goal

pub returns-in-Less : goal.returns-in-Less
returns-in-Less c w r is =
    when_below w _ _ c.args.least c.args.most c.loop-p.p (c.loop-p.invariant w r is) r
    (omega (arith, c.loop-p-test.true, c.min-last.ensures, c.infinity.ensures, top_is is)) (c.in-Less.ensures w is)

pub returns-in-Equal : goal.returns-in-Equal
returns-in-Equal c w r is =
    when_equal w _ _ c.args.least c.args.most c.loop-p.p (c.loop-p.invariant w r is) r
    (omega (arith, c.loop-p-test.true, c.min-last.ensures, c.infinity.ensures, top_is is)) (c.in-Equal.ensures w is)

pub loop-p-preserved : goal.loop-p-preserved
loop-p-preserved c w r is =
    when_above w _ _ c.args.least c.args.most c.loop-p.p (c.loop-p.invariant w r is) r
    (omega (arith, c.loop-p-test.true, c.min-last.ensures, c.infinity.ensures, top_is is)) (c.in-Greater.ensures w is)

pub returns : goal.returns
returns c w r is =
    let end = c.min-last.ensures ∙ ap (λ (n : ℕ). min c.args.most n) (c.infinity.ensures ∙ sym (top_is is)) in
    rw end (at_last w _ _ c.args.least c.args.most c.loop-p.p (c.loop-p.invariant w r is) (rw (← end) c.loop-p-test.false))
