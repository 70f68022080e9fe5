-- `scan::power::exponent` meets its contract: the sign says which way the digits raise. Assumes nothing.
use Rattle.std.proofs.Common.{◌∙◌}
use Rattle.scan.proofs.Signing.{behind}
use Rattle.scan.proofs.Raising.{shifts}
use Rattle.scan.proofs.power.exponent.Goals as goal

pub returns-in_err-exponent_digits : goal.returns-in_err-exponent_digits
returns-in_err-exponent_digits c =
    rw c.from_residual.ensures (λ a n. behind c.sign-x.ensures a n ∙ c.in_err-exponent_digits.ensures a n c.sign-x.result.negative)

pub returns : goal.returns
returns c =
    let counts = c.in_ok-exponent_digits.ensures in
    shifts c.in_ok-exponent_digits.field-0 c.shifted.result c.sign-x.result.negative counts.0 c.shifted.ensures
    (λ a n. behind c.sign-x.ensures a n ∙ counts.1 a n c.sign-x.result.negative)
