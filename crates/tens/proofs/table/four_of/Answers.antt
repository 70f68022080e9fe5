-- `tens::table::four_of` meets its contract: each entry is tested by computing. Assumes nothing.
use Prim.Native.Nat.{◌+◌, ◌*◌}
use native.Mathlib.Omega.{arith}
use Rattle.tens.proofs.Entries.{of_table}
use Rattle.tens.proofs.table.four_of.Goals as goal

pub returns : goal.returns
returns c =
    let i = 4 * c.args.k in
    record {
      first = of_table i (omega arith);
      second = of_table (i + 1) (omega arith);
      third = of_table (i + 2) (omega arith);
      fourth = of_table (i + 3) (omega arith);
    }
