-- The width that a text is read at. Assumes nothing.
use Rattle.std.specs.Prelude.{Bool, true, false}
use Rattle.rules.specs.Width.{Width, w32, w64}

-- Binary64 is the wide one of two.
abbrev pub width_of : Bool → Width
width_of true = w64
width_of false = w32
