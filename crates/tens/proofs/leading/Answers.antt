-- `tens::leading` meets its contract: each entry is tested by computing. Assumes nothing.
use native.Mathlib.Omega.{arith}
use Rattle.tens.proofs.Entries.{of_table}
use Rattle.tens.proofs.leading.Goals as goal

pub returns : goal.returns
returns c = of_table c.args.i (omega arith)
