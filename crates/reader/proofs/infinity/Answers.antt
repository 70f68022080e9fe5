-- `reader::infinity` meets its contract, by the numbers of the width. Assumes nothing.
use mathlib.Core.Path.{sym, ◌∙◌}
use Rattle.closest.proofs.Packing.{top_is}
use Rattle.reader.proofs.infinity.Goals as goal

pub returns : goal.returns
returns g c = c.infinity.ensures ∙ sym (top_is c.of.ensures.0)
