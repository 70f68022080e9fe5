-- The product that bounds a number, where the table has its power of ten. Assumes nothing.
use Rattle.std.specs.Prelude.{ℕ, ◌-◌, ◌≤◌, ◌<◌, ◌≡◌, ◌⊎◌, Option, MatchOption}
use Rattle.bounds.specs.declared.Product.{Product}
use Rattle.bounds.specs.Around.{Bounds}

-- There are no digits, or the table does not have their power of ten.
abbrev pub Untabled : ℕ → ℕ → Type 0
Untabled digits place = (digits ≡ 0) ⊎ ((place < 9758) ⊎ (10408 < place))

-- The table has the power of ten of these digits' place, and the product bounds them at that place.
pub record Scaled (digits place upper exponent : ℕ) : Type 0 where
  pub first : 9758 ≤ place
  pub last : place ≤ 10408
  pub bounds : Bounds digits (place - 9758) upper exponent

-- There is a product where the table has the power of ten, and nowhere else.
abbrev pub Scales : ℕ → ℕ → Option Product → Type 0
Scales digits place product = MatchOption product (Untabled digits place) (λ p. Scaled digits place p.upper p.exponent)
