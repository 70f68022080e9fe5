-- `scan::word` meets its contract. Assumes nothing.
use Rattle.std.proofs.Common.{◌∙◌}
use Rattle.scan.proofs.Words.{nan, inf, compared, reads_nan, reads_word}
use Rattle.scan.proofs.word.Goals as goal

pub returns-then-eq : goal.returns-then-eq
returns-then-eq c = reads_nan c.args.text.now (compared c.args.text.now nan _ _ c.as_slice.ensures c.eq.ensures ∙ c.if-eq.true)

pub returns : goal.returns
returns c =
    let other = compared c.args.text.now nan _ _ c.as_slice.ensures c.eq.ensures ∙ c.if-eq.false in
    rw c.then_some.ensures
    (reads_word c.requires.0 other c.eq-2.result (compared c.args.x.rest.now inf _ _ c.as_slice-2.ensures c.eq-2.ensures) c.requires.1)
