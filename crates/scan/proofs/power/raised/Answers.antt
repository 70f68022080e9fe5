-- `scan::power::raised` meets its contract. Assumes nothing.
use Rattle.std.proofs.Common.{arith}
use Rattle.std.proofs.lemmas.Bool.Decides.{nat_tests}
use Rattle.scan.proofs.Raising.{raised_end, raised_exponent, raised_other}
use Rattle.scan.proofs.power.raised.Goals as goal

pub returns-in-empty : goal.returns-in-empty
returns-in-empty c = raised_end c.args.text.now c.in-empty.len_below

pub returns-in-101 : goal.returns-in-101
returns-in-101 c = raised_exponent c.args.text.now c.in-101.len_at_least (omega arith) c.exponent.result c.exponent.ensures

pub returns-in_default : goal.returns-in_default
returns-in_default c = (raised_other c.args.text.now c.in_default.len_at_least (λ is. grind (arith, nat_tests)) c.requires, tt)
