-- `put::bytes` meets its contract: the part between two places becomes the text. Assumes nothing.
use native.Mathlib.Omega.{arith}
use Rattle.put.proofs.Within.{replaced}
use Rattle.put.proofs.bytes.Goals as goal

pub returns : goal.returns
returns c = replaced c.args.text.now (omega arith) (omega arith) c.requires c.copy_from_slice.ensures.after
