-- `scan::digits::ending` meets its contract: it goes over all that is left. Assumes nothing.
use Rattle.std.proofs.Common.{List, ℕ, [], length, subst, arith}
use Rattle.scan.specs.Passes.{Makes}
use Rattle.scan.proofs.Keeping.{room}
use Rattle.scan.proofs.Going.{over}
use Rattle.scan.proofs.digits.ending.Goals as goal

pub longer-requires : goal.longer-requires
longer-requires c =
    let n = length c.args.end.now in
    let v = c.in_ok-last.field-0 in
    let fits = room c.args.start.digits n v (omega arith) (omega arith) c.in_ok-last.ensures.0 in
    (omega arith, fits.0, fits.1)

pub returns : goal.returns
returns c =
    let n = length c.args.end.now in
    let v = c.in_ok-last.field-0 in
    let makes : Makes n c.args.end.now v [] = subst (λ (t : List ℕ). Makes n t v []) c.requires.is c.in_ok-last.ensures.1 in
    over n makes (omega (arith, c.longer.ensures.0)) c.longer.ensures.1
