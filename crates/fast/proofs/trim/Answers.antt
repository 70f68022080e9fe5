-- `fast::trim` meets its contract: each turn takes a zero off. Assumes nothing.
use native.Mathlib.Omega.{arith}
use Rattle.fast.proofs.Places.{one_off, few_off}
use Rattle.fast.proofs.trim.Goals as goal

pub overflow_add-t : goal.overflow_add-t
overflow_add-t c =
    let l = c.loop-t in
    omega (arith, few_off _ c.args.place l.t.digits l.t.place l.invariant (omega arith) (omega arith), c.requires)

pub loop-t-preserved : goal.loop-t-preserved
loop-t-preserved c = let l = c.loop-t in one_off _ c.args.place l.t.digits l.t.place l.invariant (omega arith)
