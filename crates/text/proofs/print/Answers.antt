-- `text::print` meets its contract: a name, or a sign and the magnitude. Assumes nothing.
use native.Mathlib.Omega.{arith}
use Rattle.laws.proofs.Puts.{then, part}
use Rattle.text.proofs.Spelling.{special-text, ordinary_text, found, found_not}
use Rattle.text.proofs.print.Goals as goal

pub returns-then-is_special : goal.returns-then-is_special
returns-then-is_special g c =
    rw (special-text g.P.Pattern.width _ (found c.is_special.ensures c.if-is_special.true)) c.put_name.ensures

pub returns : goal.returns
returns g c =
    rw (
      ordinary_text g.P.Pattern.width _ (found_not c.is_special.ensures c.if-is_special.false),
      ← c.is_negative.ensures,
    ) (then c.put_sign-at.ensures (part _ (omega arith) c.magnitude.ensures))
