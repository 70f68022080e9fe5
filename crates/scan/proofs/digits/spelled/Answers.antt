-- `scan::digits::spelled` meets its contract: two tests of all bytes at once, and the number that they make. Assumes nothing.
use Rattle.scan.proofs.Spelling.{spelled}
use Rattle.scan.proofs.digits.spelled.Goals as goal

pub returns : goal.returns
returns c = spelled {v = c.args.v} {r = c.joined.result} c.if-v-ne0.false c.if-n-ne0.false c.joined.ensures
