-- `put::zeros` meets its contract: the part between two places is filled. Assumes nothing.
use native.Mathlib.Omega.{arith}
use Rattle.rules.specs.Bytes.{byte0}
use Rattle.rules.specs.Layout.{zeros}
use Rattle.put.proofs.Within.{filled}
use Rattle.put.proofs.zeros.Goals as goal

pub returns : goal.returns
unfolding zeros
returns c = filled byte0 c.args.n (omega arith) (omega arith) c.requires (c.fill.ensures.after (λ y is. is))
