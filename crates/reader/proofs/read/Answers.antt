-- `reader::read` meets its contract: the text's length, and a pattern of a type whose size tells its width. Assumes nothing.
use mathlib.Core.Bool.{true}
use mathlib.Core.Logic.{⊎_elim}
use mathlib.Core.Path.{◌≡◌, sym, ap, subst, ◌∙◌}
use Prim.Native.Nat.{ℕ, ◌^◌, ◌<◌}
use native.Mathlib.Omega.{arith}
use lib.ListN.{length}
use Rattle.std.specs.Prelude.{nat_eq, ◌==◌, Ok}
use Rattle.std.proofs.lemmas.Bool.Decides.{nat_tests}
use Rattle.rules.specs.Width.{Width}
use Rattle.rules.specs.Reader.{Reading, reading}
use Rattle.theorems.proofs.ReadLength.{empty_refused, long_refused}
use Rattle.reader.specs.Told.{told}
use Rattle.reader.specs.Widths.{width_of}
use Rattle.reader.proofs.Answers.{has_room}
use Rattle.reader.proofs.read.Goals as goal

none : (n : ℕ) → true ≡ (n == 0) → n ≡ 0
none n h = grind (arith, nat_tests)

pub returns-then-is_empty : goal.returns-then-is_empty
returns-then-is_empty g c =
    let t = c.args.text.now in
    let w = g.P.Pattern.width in
    ⊎_elim (λ h. sym (empty_refused w t (none (length t) (sym h ∙ c.is_empty.ensures)))) (λ h. sym (long_refused w t h.1)) c.then-is_empty.either

pub pattern-requires : goal.pattern-requires
pattern-requires g c =
    let w = g.P.Pattern.width in
    let t = c.args.text.now in
    let same = ap (λ (n : ℕ). width_of (nat_eq n 64)) c.SIZE.ensures ∙ sym g.met.P.Quick.told_by_size in
    let is : told (λ v. v) (Ok c.in_ok-bits.bits) ≡ reading w t =
    ap (told (λ v. v)) c.in_ok-bits.ensures.value ∙ c.read_bits.ensures ∙ ap (λ (v : Width). reading v t) same in
    subst (λ (a : Reading). a.pattern < 2 ^ w.bits) (sym is) (has_room w g.met.P.Pattern.numbers t)
