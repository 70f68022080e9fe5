-- `lines::Line::push` meets its contract. Assumes nothing.
use mathlib.Core.List.{List, [], ◌∷◌, ◌++◌}
use mathlib.Core.Path.{◌≡◌, refl, sym, ◌∙◌}
use Prim.Native.Nat.{ℕ, ◌<◌, ◌≤◌}
use native.Mathlib.Omega.{arith}
use borrow.Author.Tests.{lt-ltb, le-ltb}
use lib.ListN.{length}
use lib.Seq.{length-take-le}
use Rattle.std.proofs.lemmas.List.{take_more_set}
use Rattle.lines.specs.Kept.{more}
use Rattle.lines.proofs.Line.push.Goals as goal

with_room : (t : List ℕ) (b : ℕ) → length t < 4096 → more t b ≡ t ++ (b ∷ [])
unfolding more
with_room t b room = rw (more, lt-ltb (length t) 4096 room) refl

full : (t : List ℕ) (b : ℕ) → 4096 ≤ length t → more t b ≡ t
unfolding more
full t b room = rw (more, le-ltb (length t) 4096 room) refl

pub returns-then-self-lt-ROOM-clause-kept : goal.returns-then-self-lt-ROOM-clause-kept
returns-then-self-lt-ROOM-clause-kept c =
    let l = c.args.self.now in
    let long = length-take-le l.len l.bytes (omega (arith, c.well_formed)) in
    take_more_set l.bytes l.len c.args.b (omega (arith, c.well_formed)) ∙ sym (with_room _ c.args.b (omega (arith, long, c.if-self-lt-ROOM.true)))

pub returns-else-self-lt-ROOM-clause-kept : goal.returns-else-self-lt-ROOM-clause-kept
returns-else-self-lt-ROOM-clause-kept c =
    let l = c.args.self.now in
    let long = length-take-le l.len l.bytes (omega (arith, c.well_formed)) in
    sym (full _ c.args.b (omega (arith, long, c.if-self-lt-ROOM.false)))
