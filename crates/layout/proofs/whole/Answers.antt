-- `layout::whole` meets its contract. Assumes nothing.
use native.Mathlib.Omega.{arith}
use lib.ListN.{length-replicate}
use Rattle.laws.proofs.Puts.{kept, standing, then}
use Rattle.rules.specs.Bytes.{byte0, bytes}
use Rattle.rules.specs.Layout.{zeros}
use Rattle.layout.proofs.whole.Goals as goal

pub bytes-requires : goal.bytes-requires
unfolding zeros bytes
bytes-requires c =
    let put = c.zeros-next.ensures in
    omega (arith, put.behind, kept put, length-replicate c.args.zeros byte0)

pub returns : goal.returns
unfolding bytes
returns c = standing (then c.zeros-next.ensures c.bytes.ensures)
