-- A small number cast to an i32. Assumes nothing.
use mathlib.Core.Path.{◌≡◌, ap, ◌∙◌}
use Prim.Native.Nat.{ℕ, ◌^◌, ◌<◌}
use lib.IntN.{pos}
use mir.Facts.{to_z_pos}
use mir.Syntax.{w32}
use mir.Val.{to_z}

-- It is the number that it is known as.
pub cast : (n m : ℕ) → n ≡ m → n < 2 ^ 31 → to_z w32 n ≡ pos m
cast n m is small = to_z_pos w32 small ∙ ap pos is
