-- `scan::scan` meets its contract: a digit behind the sign, or a word. Assumes nothing.
use Rattle.std.proofs.Common.{sym, ◌∙◌}
use Rattle.scan.proofs.Words.{with_sign, without_number}
use Rattle.scan.proofs.scan.Goals as goal

pub returns-in_err-number : goal.returns-in_err-number
returns-in_err-number c = rw c.from_residual.ensures (without_number c.sign-x.ensures (sym c.starts.ensures ∙ c.if-not-starts.false) c.in_err-number.ensures)

pub returns : goal.returns
returns c = with_sign c.sign-x.ensures (sym c.starts.ensures ∙ c.if-not-starts.false) c.in_ok-number.ensures
