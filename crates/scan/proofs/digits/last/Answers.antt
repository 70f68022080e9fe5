-- `scan::digits::last` meets its contract: the last eight bytes, those before the n of them made 0. Assumes nothing.
use Rattle.std.proofs.Common.{arith, lit<}
use Rattle.std.proofs.lemmas.Option.{IfSome_then}
use lib.Bits.{xor_lt}
use Rattle.scan.proofs.Filling.{last}
use Rattle.scan.proofs.digits.last.Goals as goal

pub returns : goal.returns
returns c =
    let chunk = c.in_ok-last_chunk.ensures.cases in
    IfSome_then c.spelled.result c.spelled.ensures
    (λ r spells. last c.args.text.now c.args.n c.in_ok-last_chunk.field-0.now chunk.0 c.requires.1 chunk.1.same (λ i. (c.type_inv.text i).fits) c.from_le_bytes-v.ensures
    (xor_lt 64 c.from_le_bytes-v.result 0x3030_3030_3030_3030 (omega arith) (lit< tt)) spells)
