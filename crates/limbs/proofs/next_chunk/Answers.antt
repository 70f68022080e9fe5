-- `limbs::next_chunk` meets its contract: what is read so far is a part of the digits. Assumes nothing.
use Rattle.std.proofs.Common.{arith}
use Rattle.std.proofs.lemmas.Bool.Decides.{nat_tests}
use Rattle.limbs.proofs.Chunks.{at_end, at_other, one_digit, one_point, chunked}
use Rattle.limbs.proofs.next_chunk.Goals as goal
use Rattle.limbs.proofs.next_chunk.Goals.{else-loop-power-test, then-loop-power-test+in_default, then-loop-power-test+in_default-2, then-loop-power-test+in_default-3}

pub loop-power-preserved-in-46-1 : goal.loop-power-preserved-in-46-1
loop-power-preserved-in-46-1 c = one_point c.loop-power.invariant c.in-46.len_at_least (omega arith)

pub loop-power-preserved : goal.loop-power-preserved
loop-power-preserved c =
    rw c.from.ensures (one_digit c.loop-power.invariant c.in-48-to-57.len_at_least (omega arith) (omega arith))

pub returns : goal.returns
returns c =
    chunked c.loop-power.invariant
    (λ less.
    elim c.loop-power-test.branch [
      | else-loop-power-test w ↦ absurd (omega arith)
      | then-loop-power-test+in_default w ↦ at_end c.loop-power.rest.now (omega arith)
      | then-loop-power-test+in_default-2 w ↦ at_other c.loop-power.rest.now (λ least most. omega arith) (λ is. grind (arith, nat_tests))
      | then-loop-power-test+in_default-3 w ↦ at_other c.loop-power.rest.now (λ least most. omega arith) (λ is. grind (arith, nat_tests))
    ])
