-- `print::show` stays within its buffer: a text has at most 25 bytes, and a line end one more. Assumes nothing.
use native.Mathlib.Omega.{arith}
use lib.ListN.{length-set, length-take}
use Rattle.rules.specs.Answer.{every}
use Rattle.dtoa.proofs.Calls.{length_bound}
use Rattle.print.proofs.show.Goals as goal

pub bounds-text-n : goal.bounds-text-n
bounds-text-n g c = omega (arith, (length_bound every g.P.Pattern.width _ _ _ _ c.in-Ok.ensures g.met.P.Pattern.printable).1)

pub overflow_add-text : goal.overflow_add-text
overflow_add-text g c = omega (arith, (length_bound every g.P.Pattern.width _ _ _ _ c.in-Ok.ensures g.met.P.Pattern.printable).1)

pub slice_bounds-text-end : goal.slice_bounds-text-end
slice_bounds-text-end g c =
    simp length-set (omega (arith, (length_bound every g.P.Pattern.width _ _ _ _ c.in-Ok.ensures g.met.P.Pattern.printable).1, c.format.auto.buf))

pub slice_bounds-write_all-end : goal.slice_bounds-write_all-end
slice_bounds-write_all-end g c =
    simp (length-take, length-set) (omega (arith, (length_bound every g.P.Pattern.width _ _ _ _ c.in-Ok.ensures g.met.P.Pattern.printable).1, c.format.auto.buf))
