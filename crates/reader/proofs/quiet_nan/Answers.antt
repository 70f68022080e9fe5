-- `reader::quiet_nan` meets its contract: the infinity and the significand's first bit. Assumes nothing.
use mathlib.Core.Path.{◌≡◌, ap, ◌∙◌}
use Prim.Native.Nat.{ℕ, ◌+◌, ◌-◌, ◌*◌, ◌%◌, ◌^◌}
use native.Mathlib.Omega.{arith}
use Rattle.rules.specs.Reader.{quiet_nan}
use Rattle.reader.proofs.Answers.{nan_is, nan_fits, word_fits}
use Rattle.reader.proofs.quiet_nan.Given.{Over}
use Rattle.reader.proofs.quiet_nan.Goals as goal
use Rattle.reader.proofs.quiet_nan.Goals.{After-FRACTION}

sum_is : (g : Over) (c : After-FRACTION g) → c.infinity.result + 1 * 2 ^ (c.FRACTION.result - 1) % 2 ^ 64 ≡ quiet_nan g.P.Pattern.width
sum_is g c =
    let its = g.met.P.Pattern.numbers in
    ap (λ (n : ℕ). n + 1 * 2 ^ (c.FRACTION.result - 1) % 2 ^ 64) c.infinity.ensures
    ∙ nan_is g.P.Pattern.width its c.FRACTION.result (c.FRACTION.ensures ∙ its.fraction_is)

pub returns : goal.returns
returns g c = sum_is g c

pub overflow_add-result : goal.overflow_add-result
overflow_add-result g c =
    let its = g.met.P.Pattern.numbers in
    omega (arith, sum_is g c, nan_fits g.P.Pattern.width its, word_fits g.P.Pattern.width its)
