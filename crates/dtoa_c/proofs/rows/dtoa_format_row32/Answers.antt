-- `dtoa_c::rows::dtoa_format_row32` meets its contract. Assumes nothing.
use Rattle.rules.specs.Width.{w32}
use Rattle.theorems.proofs.Printable.{printable32}
use Rattle.dtoa_c.proofs.Answering.{row_length_held}
use Rattle.dtoa_c.proofs.rows.dtoa_format_row32.Goals as goal

pub answered-requires : goal.answered-requires
answered-requires c = row_length_held w32 _ _ _ printable32 _ c.format_row.ensures
