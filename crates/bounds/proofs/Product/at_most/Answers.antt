-- `bounds::Product::at_most` meets its contract where the sum has no room: its half has. Assumes nothing.
use mathlib.Core.Path.{sym}
use Prim.Native.Nat.{◌+◌}
use native.Mathlib.Nat.{le_of_eq, le_trans}
use native.Mathlib.Omega.{arith}
use Rattle.bounds.proofs.Products.{halved}
use Rattle.bounds.proofs.Product.at_most.Goals as goal

pub returns-in-None : goal.returns-in-None
returns-in-None c w r is =
    le_trans (halved w r (c.args.self.upper + c.args.far) _ c.args.self.exponent (omega arith)) (le_of_eq (sym (c.pack-in-None.ensures w is)))
