-- `limbs::load_digits` meets its contract: the digits passed are in the limbs. Assumes nothing.
use Rattle.std.proofs.Common.{sym, ◌∙◌, arith, eqb-true}
use Rattle.limbs.proofs.Reading.{fits, finished}
use Rattle.limbs.proofs.load_digits.Goals as goal

pub mul_add-requires : goal.mul_add-requires
mul_add-requires c = fits c.loop-rest.invariant c.next_chunk-c.ensures c.requires.1

pub returns : goal.returns
returns c =
    let empty = eqb-true _ 0 (sym c.is_empty.ensures ∙ c.loop-rest-test.false) in
    finished c.loop-rest.invariant (omega (arith, empty))
