-- `scan::digits::joined` meets its contract: neighbours are joined in lanes that never overflow. Assumes nothing.
use Rattle.scan.proofs.Spelling.{joins}
use Rattle.scan.proofs.digits.joined.Goals as goal

pub returns : goal.returns
returns c = joins c.args.n
