-- `hexline::hex_number` meets its contract: what the bytes so far make. Assumes nothing.
use Rattle.hexline.proofs.Digits.{Read}
use Rattle.hexline.proofs.hex_number.Given as goal

abbrev pub invariant-loop-b : goal.invariant-loop-b
invariant-loop-b l = Read l.line l.v l.b-index
