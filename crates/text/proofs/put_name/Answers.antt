-- `text::put_name` meets its contract. Assumes nothing.
use mathlib.Core.Path.{◌∙◌, sym}
use Rattle.laws.proofs.Puts.{then}
use Rattle.rules.specs.Bytes.{bytes}
use Rattle.text.proofs.put_name.Goals as goal

pub returns-then-is_bare : goal.returns-then-is_bare
unfolding bytes
returns-then-is_bare g c =
    rw (sym c.is_bare.ensures ∙ c.if-is_bare.true, ← c.is_negative.ensures) (then c.put_sign-at.ensures c.bytes.ensures)

pub returns : goal.returns
unfolding bytes
returns g c = rw (sym c.is_bare.ensures ∙ c.if-is_bare.false) c.bytes-2.ensures
