-- `bounds::multiplied` meets its contract. Assumes nothing.
use Prim.Native.Nat.{◌<◌}
use native.Mathlib.Omega.{arith}
use lib.Count.{count_leading_zeros}
use Rattle.laws.proofs.Zeros.{few_zeros}
use Rattle.bounds.proofs.Products.{exponent_few, product_high, bounded}
use Rattle.bounds.proofs.multiplied.Goals as goal
use Rattle.bounds.proofs.multiplied.Goals.{Start}

few : (s : Start) → count_leading_zeros 64 s.args.w < 64
few s = few_zeros 64 s.args.w s.requires.0 (omega arith)

pub overflow_add-result : goal.overflow_add-result
overflow_add-result c = omega (arith, c.exponent_of.ensures, exponent_few c.args.i c.requires.1)

pub invariant_of-result : goal.invariant_of-result
invariant_of-result c =
    let e = c.exponent_of.ensures in
    let small = exponent_few c.args.i c.requires.1 in
    record {
      raised = record {
        high = product_high c.args.w c.args.i _ _ c.requires.0 (omega arith) (omega arith) c.leading.ensures c.mul_high.ensures;
        some = omega (arith, few c.before.before.before);
        few = omega (arith, few c.before.before.before);
      };
    }

pub returns : goal.returns
returns c =
    let e = c.exponent_of.ensures in
    record {
      reads = bounded c.args.w c.args.i _ _ c.requires.0 (omega arith) (omega arith) c.leading.ensures c.mul_high.ensures _
          (omega (arith, few c.before.before.before.before));
    }
