-- `scan::digits::value` meets its contract: what is below a digit 0 wraps around, and so is above 9 too. Assumes nothing.
use Rattle.std.proofs.Common.{arith}
use Rattle.scan.proofs.Passing.{value_of}
use Rattle.scan.proofs.digits.value.Goals as goal

pub returns : goal.returns
returns c = rw c.then_some.ensures (value_of c.args.b _ (λ l. omega arith) (λ l. omega arith))
