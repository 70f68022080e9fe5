-- `reader::compared` meets its contract by comparison of the digits behind the sign. Assumes nothing.
use mathlib.Core.Path.{ap, subst, ◌∙◌}
use mathlib.Core.List.{List}
use Prim.Native.Nat.{ℕ, ◌-◌}
use lib.ListN.{length, take, drop}
use Rattle.scan.specs.Mantissa.{mantissa}
use Rattle.settle.specs.Settles.{Settles}
use Rattle.reader.proofs.Magnitudes.{from_sign, by_table, by_comparison}
use Rattle.reader.proofs.compared.Goals as goal

pub returns : goal.returns
returns g c =
    let x = c.args.x in
    let t = c.args.text.now in
    let digits = ap (λ (n : ℕ). take (length t - n) (drop n t)) c.from.ensures ∙ from_sign x.negative t in
    let w = g.P.Pattern.width in
    let r = g.met.P.Pattern.spanned.readable in
    let its = c.of-t.ensures.0 in
    by_comparison w g.met.P.Pattern.spanned t x _ _ c.requires.scaled _ _ (c.around-ends.ensures w r its) _
    (subst (λ (l : List ℕ). Settles w (mantissa 0 l) (x.place - x.held.dropped) c.around-ends.result.least c.around-ends.result.most c.settle.result)
    digits (c.settle.ensures w r its))

-- Both ends are one.
pub returns-then-ends : goal.returns-then-ends
returns-then-ends g c =
    let w = g.P.Pattern.width in
    by_table w g.met.P.Pattern.spanned c.args.text.now c.args.x _ _ c.requires.scaled _ _
    (c.around-ends.ensures w g.met.P.Pattern.spanned.readable c.of-t.ensures.0) c.if-ends.true
