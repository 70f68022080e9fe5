-- `limbs::times_fives` meets its contract: the limbs, times the fives that are left, are the product. Assumes nothing.
use Rattle.std.proofs.Common.{◌-◌, ◌*◌}
use Rattle.limbs.proofs.Fives.{Toward}
use Rattle.limbs.proofs.times_fives.Given as goal

abbrev pub invariant-loop : goal.invariant-loop
invariant-loop l = Toward l.initial.a l.n l.a (l.n - 13 * l.counter)
