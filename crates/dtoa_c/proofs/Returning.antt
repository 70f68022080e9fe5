-- An answer's two numbers, from the contract of the call that reads. Assumes nothing.
use mathlib.Core.List.{List}
use mathlib.Core.Path.{◌≡◌}
use Prim.Native.Nat.{ℕ}
use Rattle.rules.specs.Width.{Width}
use Rattle.rules.specs.Reader.{Reading, reading}
use Rattle.dtoa_c.specs.Returned.{Told, Returned}

pub returned : (w : Width) (t : List ℕ) {a : Reading} {number pattern : ℕ} → a ≡ reading w t → Told a number pattern → Returned w t number pattern
returned w t is told = rw (← is) told
