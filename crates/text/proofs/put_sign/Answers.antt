-- `text::put_sign` meets its contract. Assumes nothing.
use native.Mathlib.Omega.{arith}
use Rattle.laws.proofs.Puts.{none}
use Rattle.text.proofs.put_sign.Goals as goal

pub returns : goal.returns
returns c = rw c.if-negative.false (none _ 0 (omega arith))
