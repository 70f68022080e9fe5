-- `layout::write_small` meets its contract: the digits one after the other are the number's numeral. Assumes nothing.
use mathlib.Core.Path.{refl}
use native.Mathlib.Omega.{arith}
use Rattle.places.proofs.Counted.{count_one, count_is}
use Rattle.put.proofs.Numerals.{one_more, first-digit, plainly}
use Rattle.layout.proofs.write_small.Goals as goal

pub returns-then-n-lt10 : goal.returns-then-n-lt10
returns-then-n-lt10 c =
    let less = c.if-n-lt10.true in
    plainly _ 1 (count_one _ less) (first-digit _ less c.digit.ensures)

pub returns-then-n-lt100 : goal.returns-then-n-lt100
returns-then-n-lt100 c =
    plainly _ 2 (count_is _ 1 c.if-n-lt10.false c.if-n-lt100.true)
    (one_more 1 _ _ _ refl refl (first-digit _ (omega arith) c.digit-at.ensures) c.digit-then-n-lt100.ensures)

pub returns : goal.returns
returns c =
    plainly _ 3 (count_is _ 2 c.if-n-lt100.false c.requires.n_bound)
    (one_more 2 _ _ _ refl refl
    (one_more 1 _ _ _ (omega arith) refl (first-digit _ (omega arith) c.digit-tens.ensures) c.digit-ones.ensures)
    c.digit-2.ensures)
