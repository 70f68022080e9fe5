-- `scan::heads::sign` meets its contract. Assumes nothing.
use Rattle.std.proofs.Common.{arith}
use borrow.Author.Tests.{ltb-true, eqb-false}
use Rattle.scan.proofs.Signing.{negative_head, positive_head, not_begun}
use Rattle.scan.proofs.heads.sign.Goals as goal
use Rattle.scan.proofs.heads.sign.Goals.{in_default-via-then-text-lt1, in_default-via-else-text-lt1+in_default-1}

pub returns-in-45 : goal.returns-in-45
returns-in-45 c = negative_head c.args.text.now (omega arith) (omega arith)

pub returns-in_default : goal.returns-in_default
returns-in_default c =
    positive_head c.args.text.now
    (elim c.in_default.branch [
      | in_default-via-then-text-lt1 w ↦ not_begun _ c.args.text.now (λ some is. omega (arith, ltb-true, eqb-false))
      | in_default-via-else-text-lt1+in_default-1 w ↦ not_begun _ c.args.text.now (λ some is. omega (arith, ltb-true, eqb-false))
    ])
