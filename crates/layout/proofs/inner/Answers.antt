-- `layout::inner` meets its contract. Assumes nothing.
use native.Mathlib.Omega.{arith}
use Rattle.layout.proofs.Texts.{inner_text}
use Rattle.layout.proofs.inner.Goals as goal

pub returns : goal.returns
returns c =
    inner_text _ _ _ c.requires.kk_lt_len (omega arith) c.moved-end.ensures c.byte.ensures
