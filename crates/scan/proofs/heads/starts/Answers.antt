-- `scan::heads::starts` meets its contract. Assumes nothing.
use Rattle.std.proofs.Common.{sym}
use Rattle.scan.proofs.Passing.{ascii, starts_end, starts_byte}
use Rattle.scan.proofs.heads.starts.Goals as goal

pub returns-in-len1-up : goal.returns-in-len1-up
returns-in-len1-up c = sym (starts_byte c.args.text.now _ c.in-len1-up.len_at_least (ascii _ _ c.is_ascii_digit.ensures.cases))

pub returns-in-empty : goal.returns-in-empty
returns-in-empty c = sym (starts_end c.args.text.now c.in-empty.len_below)
