-- How one number stands to another. Assumes nothing.
use Rattle.std.specs.Prelude.{◌≡◌, ℕ, ◌<◌}
use Rattle.std.specs.declared.cmp.Ordering.{Ordering}
use Rattle.std.specs.declared.cmp.Ordering.TheVariants.{Less, Equal, Greater}

-- What an answer says of x and y.
abbrev pub Stands : Ordering → ℕ → ℕ → Type 0
Stands Less x y = x < y
Stands Equal x y = x ≡ y
Stands Greater x y = y < x
