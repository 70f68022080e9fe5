-- `layout::small` meets its contract. Assumes nothing.
use Rattle.layout.proofs.Texts.{small_text}
use Rattle.layout.proofs.small.Goals as goal

pub returns : goal.returns
returns c =
    let given = c.args in
    small_text given.buf.now given.len given.zeros c.moved-end.ensures c.byte-next.ensures c.byte-first.ensures c.zeros.ensures
