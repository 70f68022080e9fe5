-- From text to text over digits. Assumes nothing.
use Rattle.std.proofs.Common.{◌≡◌, ℕ, ◌+◌, ◌-◌, ◌*◌, ◌^◌, ◌≤◌, List, length, arith}
use native.Mathlib.Nat.{sub_self}
use Rattle.scan.specs.declared.digits.Held.{Held}
use Rattle.scan.specs.Passes.{none, Makes}
use Rattle.scan.specs.Goes.{Keeps, Goes}
use Rattle.scan.proofs.Passing.{joined, ends_all, ends_then, passed_ends, passed_count}

-- From a text to itself.
pub stays : {t : List ℕ} {held : Held} → Goes t held t held
stays {t} {held} =
    record {
      ends = ends_all t;
      few = omega arith;
      leads = λ a k. record { all = a; passes = rw (sub_self (length t)) none; keeps = k };
    }

-- From text to text to text.
pub then : {t u v : List ℕ} {x y z : Held} → Goes t x u y → Goes u y v z → Goes t x v z
then {t} {u} {v} {x} {y} {z} p q =
    record {
      ends = ends_then p.ends q.ends;
      few = omega (arith, p.few, q.few);
      leads = λ a h.
          let front = p.leads a h in
          let rest = q.leads front.all front.keeps in
          let sum : (length t - length u) + (length u - length v) ≡ length t - length v = omega (arith, p.ends.inside, q.ends.inside) in
          record { all = rest.all; passes = rw (← sum) (joined front.passes rest.passes); keeps = rest.keeps };
    }

-- Over k digits that make v.
pub over : {t u : List ℕ} {v : ℕ} {start held : Held} (k : ℕ) → Makes k t v u → held.dropped ≤ start.dropped + k →
    ((a : ℕ) → Keeps a start → Keeps (a * 10 ^ k + v) held) → Goes t start u held
over {t} {u} {v} {start} {held} k makes few keeps =
    let all = passed_count (makes.passes 0) in
    let count : length t - length u ≡ k = omega (arith, all) in
    record {
      ends = passed_ends (makes.passes 0);
      few = omega (arith, all, few);
      leads = λ a h. record { all = a * 10 ^ k + v; passes = rw count (makes.passes a); keeps = keeps a h };
    }
