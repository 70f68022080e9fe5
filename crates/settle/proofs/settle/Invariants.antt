-- `settle::settle` meets its contract: each turn rules a pattern out, or ends at the one that the number reads as. Assumes nothing.
use Rattle.rules.specs.Width.{Width}
use Rattle.theorems.proofs.Readable.{Readable}
use Rattle.scan.specs.Mantissa.{mantissa}
use Rattle.closest.specs.Targets.{Targets}
use Rattle.settle.proofs.Settling.{Reached}
use Rattle.settle.proofs.settle.Given as goal

abbrev pub invariant-loop-p : goal.invariant-loop-p
invariant-loop-p l = (w : Width) → Readable w → Targets l.t w → Reached w (mantissa 0 l.digits) l.tens l.least l.most l.p
