-- `scan::digits::dropped` meets its contract: each turn goes over one digit. Assumes nothing.
use Rattle.std.proofs.Common.{◌+◌, ◌||◌, not, eqb, List, ℕ, sym, subst, arith}
use Rattle.std.proofs.lemmas.List.{take_rest}
use Rattle.scan.specs.declared.digits.Held.{Held}
use Rattle.scan.specs.Goes.{Goes}
use Rattle.scan.proofs.Keeping.{dropped, or_false, or_true}
use Rattle.scan.proofs.Passing.{digit_range, one, starts_end, starts_byte}
use Rattle.scan.proofs.Going.{stays, then, over}
use Rattle.scan.proofs.digits.dropped.Goals as goal
use Rattle.scan.proofs.digits.dropped.Goals.{in_default, in-len1-up+in_default-value}

pub loop-rest-init : goal.loop-rest-init
loop-rest-init c = (stays, c.requires.0)

pub loop-rest-preserved : goal.loop-rest-preserved
loop-rest-preserved c =
    let t = c.loop-rest.rest.now in
    let held = c.loop-rest.held in
    let digit = c.in-Some.ensures in
    let full = c.loop-rest.invariant.1 in
    let few = digit_range _ digit.0 in
    let next : Held = record { digits = held.digits; dropped = held.dropped + 1; more = held.more || not (eqb c.in-Some.digit 0) } in (
      subst (λ (u : List ℕ). Goes c.args.text.now c.args.start u next) (sym (take_rest t 1))
          (then c.loop-rest.invariant.0 (over 1 (one t 0 c.in-Some.digit (omega arith) digit.0 digit.1) (omega arith)
          (λ a k. dropped k c.in-Some.digit (omega (arith, digit.1)) full _ (or_false held.more c.in-Some.digit) (or_true held.more c.in-Some.digit)))),
      full,
    )

pub returns : goal.returns
returns c =
    record {
      goes = c.loop-rest.invariant.0;
      ends = elim c.if-rest-lt1.branch [
        | in_default w ↦ starts_end c.loop-rest.rest.now (omega arith)
        | in-len1-up+in_default-value w ↦ starts_byte c.loop-rest.rest.now _ (omega arith) w.in_default-value.ensures
      ];
    }
