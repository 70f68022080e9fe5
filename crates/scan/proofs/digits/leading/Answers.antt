-- `scan::digits::leading` meets its contract: each turn goes over one digit, and there is room for it. Assumes nothing.
use Rattle.std.proofs.Common.{◌≡◌, ◌+◌, ◌*◌, ◌^◌, ◌<◌, length, take, get_or, length-take, arith, lit<}
use lib.Seq.{get_or-take}
use Rattle.scan.proofs.Passing.{digit_range, one}
use Rattle.scan.proofs.Keeping.{longer, another}
use Rattle.scan.proofs.Going.{stays, then, over}
use Rattle.scan.proofs.digits.leading.Goals as goal
use Rattle.scan.proofs.digits.leading.Goals.{In-Some}

-- The byte of this turn stands in the text too.
inside : (c : In-Some) → (c.loop-i.i < length c.args.text.now) × (c.loop-i.i < c.min.result) × (c.loop-i.i < 18)
inside c =
    let few = length-take c.min.result c.args.text.now in
    (omega (arith, few), omega (arith, few), omega (arith, few))

-- A digit more fits.
fits : (c : In-Some) → let n = c.loop-i.n * 10 + c.in-Some.digit in (n < 10 ^ (c.loop-i.i + 1)) × (n < 10 ^ 18)
fits c =
    another c.loop-i.n c.loop-i.i c.in-Some.digit (inside c).2 c.loop-i.invariant.1
    (omega (arith, digit_range _ c.in-Some.ensures.0, c.in-Some.ensures.1))

pub loop-i-init : goal.loop-i-init
loop-i-init c = (stays, lit< tt)

pub overflow_mul-n : goal.overflow_mul-n
overflow_mul-n c = let most = (fits c).1 in omega (arith, most)

pub overflow_add-n : goal.overflow_add-n
overflow_add-n c = let most = (fits c).1 in omega (arith, most)

pub loop-i-preserved : goal.loop-i-preserved
loop-i-preserved c =
    let t = c.args.text.now in
    let i = c.loop-i.i in
    let most = (fits c).1 in
    let same : get_or (take c.min.result t) i 0 ≡ get_or t i 0 = get_or-take c.min.result t i 0 (inside c).1 in
    let digit = c.in-Some.ensures in (
      then c.loop-i.invariant.0
          (over 1 (one t i c.in-Some.digit (inside c).0 (rw same at digit.0) (rw same at digit.1)) (omega arith)
          (λ a k. longer k 10 c.in-Some.digit (omega (arith, most)) (omega (arith, most)))),
      (fits c).0,
    )
