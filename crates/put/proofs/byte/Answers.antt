-- `put::byte` meets its contract. Assumes nothing.
use Rattle.laws.proofs.Puts.{one}
use Rattle.put.proofs.byte.Goals as goal

pub returns : goal.returns
returns c = one c.args.buf.now c.args.at c.args.b c.requires
