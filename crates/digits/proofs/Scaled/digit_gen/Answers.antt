-- `digits::Scaled::digit_gen` meets its contract. Assumes nothing.
use native.Mathlib.Omega.{arith}
use mir.Facts.{to_z-of_z}
use mir.Syntax.{w32}
use mir.Val.{SFits}
use Rattle.digits.proofs.FirstPlace.{within_room, few_units, some_digit, below_byte, generated}
use Rattle.digits.proofs.Scaled.digit_gen.Goals as goal

pub grisu_round-fallen-requires : goal.grisu_round-fallen-requires
grisu_round-fallen-requires c =
    record { rest_le_room = within_room c.requires c.first_place-f.ensures; room_bound = few_units c.requires c.first_place-f.ensures }

pub overflow_sub-buf : goal.overflow_sub-buf
overflow_sub-buf c = some_digit c.requires c.first_place-f.ensures

pub overflow_sub-buf-2 : goal.overflow_sub-buf-2
overflow_sub-buf-2 c = below_byte c.requires c.first_place-f.ensures c.grisu_round-fallen.ensures

pub returns : goal.returns
returns c =
    let held : SFits w32 c.first_place-f.result.place = omega arith in
    rw (to_z-of_z held) (generated c.requires c.first_place-f.ensures c.grisu_round-fallen.ensures)
