-- `places::count_decimal_digit32` meets its contract: each test names the power of ten above the number. Assumes nothing.
use lib.Dec.{lit≤}
use Rattle.places.proofs.Counted.{count_one, count_is, to_nine, nine}
use Rattle.places.proofs.count_decimal_digit32.Goals as goal

pub returns-then-n-lt10 : goal.returns-then-n-lt10
returns-then-n-lt10 c = to_nine _ 1 (count_one _ c.if-n-lt10.true) (lit≤ tt)

pub returns-then-n-lt100 : goal.returns-then-n-lt100
returns-then-n-lt100 c = to_nine _ 2 (count_is _ 1 c.if-n-lt10.false c.if-n-lt100.true) (lit≤ tt)

pub returns-then-n-lt1000 : goal.returns-then-n-lt1000
returns-then-n-lt1000 c = to_nine _ 3 (count_is _ 2 c.if-n-lt100.false c.if-n-lt1000.true) (lit≤ tt)

pub returns-then-n-lt10000 : goal.returns-then-n-lt10000
returns-then-n-lt10000 c = to_nine _ 4 (count_is _ 3 c.if-n-lt1000.false c.if-n-lt10000.true) (lit≤ tt)

pub returns-then-n-lt100000 : goal.returns-then-n-lt100000
returns-then-n-lt100000 c = to_nine _ 5 (count_is _ 4 c.if-n-lt10000.false c.if-n-lt100000.true) (lit≤ tt)

pub returns-then-n-lt1000000 : goal.returns-then-n-lt1000000
returns-then-n-lt1000000 c = to_nine _ 6 (count_is _ 5 c.if-n-lt100000.false c.if-n-lt1000000.true) (lit≤ tt)

pub returns-then-n-lt10000000 : goal.returns-then-n-lt10000000
returns-then-n-lt10000000 c = to_nine _ 7 (count_is _ 6 c.if-n-lt1000000.false c.if-n-lt10000000.true) (lit≤ tt)

pub returns-then-n-lt100000000 : goal.returns-then-n-lt100000000
returns-then-n-lt100000000 c = to_nine _ 8 (count_is _ 7 c.if-n-lt10000000.false c.if-n-lt100000000.true) (lit≤ tt)

pub returns-else-n-lt100000000 : goal.returns-else-n-lt100000000
returns-else-n-lt100000000 c = nine _ c.if-n-lt100000000.false
