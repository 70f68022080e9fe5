-- `reader::signed` meets its contract: the sign is a bit to add. Assumes nothing.
use mathlib.Core.Path.{◌≡◌, ap, ◌∙◌}
use Prim.Native.Nat.{ℕ, ◌+◌, ◌-◌, ◌*◌, ◌%◌, ◌^◌}
use native.Mathlib.Omega.{arith}
use Rattle.rules.specs.Reading.{with_sign}
use Rattle.reader.proofs.Answers.{by_addition, sign_fits, word_fits}
use Rattle.reader.proofs.signed.Given.{Over}
use Rattle.reader.proofs.signed.Goals as goal
use Rattle.reader.proofs.signed.Goals.{After-SIZE}

-- The sum is the pattern with its sign.
sum_is : (g : Over) (c : After-SIZE g) → c.from.result * 2 ^ (c.SIZE.result - 1) % 2 ^ 64 + c.args.v ≡ with_sign g.P.Pattern.width c.args.negative c.args.v
sum_is g c =
    ap (λ (n : ℕ). n * 2 ^ (c.SIZE.result - 1) % 2 ^ 64 + c.args.v) c.from.ensures
    ∙ by_addition g.P.Pattern.width g.met.P.Pattern.numbers c.args.negative c.SIZE.result c.args.v (c.SIZE.ensures ∙ g.met.P.Pattern.numbers.size_is)

pub returns : goal.returns
returns g c = sum_is g c

pub overflow_add-result : goal.overflow_add-result
overflow_add-result g c =
    let its = g.met.P.Pattern.numbers in
    omega (arith, sum_is g c, sign_fits g.P.Pattern.width its c.args.negative c.args.v c.requires, word_fits g.P.Pattern.width its)
