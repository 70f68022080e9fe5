-- `scan::digits::first` meets its contract: what a word of eight bytes spells. Assumes nothing.
use Rattle.std.proofs.lemmas.Option.{IfSome_then}
use Rattle.scan.proofs.Loading.{eight}
use Rattle.scan.proofs.digits.first.Goals as goal

pub returns : goal.returns
returns c =
    let chunk = c.in_ok-first_chunk.ensures.cases in
    IfSome_then c.spelled.result c.spelled.ensures
    (λ r spells. eight c.in_ok-first_chunk.field-0.now c.args.text.now chunk.enough chunk.same (λ i. (c.type_inv.text i).fits) c.from_le_bytes.ensures spells)
