-- `scan::digits::eights` meets its contract: each turn goes over eight digits. Assumes nothing.
use Rattle.std.proofs.Common.{List, ℕ, sym, subst, arith}
use Rattle.std.proofs.lemmas.List.{take_rest}
use Rattle.scan.specs.Goes.{Goes}
use Rattle.scan.proofs.Going.{stays, then, over}
use Rattle.scan.proofs.digits.eights.Goals as goal

pub loop-held-init : goal.loop-held-init
loop-held-init c = stays

pub loop-held-preserved : goal.loop-held-preserved
loop-held-preserved c =
    let t = c.loop-held.rest.now in
    subst (λ (u : List ℕ). Goes c.args.text.now c.args.start u c.longer-held.result) (sym (take_rest t 8))
    (then c.loop-held.invariant (over 8 c.in-Some.ensures.2 (omega (arith, c.longer-held.ensures.0)) c.longer-held.ensures.1))
