-- What the quick way says of digits and their place. Assumes nothing.
use Rattle.std.specs.Prelude.{ℕ, ◌+◌, ◌*◌, ◌^◌, ◌≡◌}
use Rattle.rules.specs.Reading.{nearest}
use Rattle.rules.specs.Width.{Width}

-- The number t is the digits without some zeros at their end, each of which lifts the place by one.
pub record Trims (digits place t lifted : ℕ) : Type 0 where
  pub zeros : ℕ
  pub number : digits ≡ t * 10 ^ zeros
  pub place_is : lifted ≡ place + zeros

-- The pattern v is a width's nearest to the digits times the power of ten that their place says, 10^(place - 10100).
abbrev pub Finds : Width → ℕ → ℕ → ℕ → Type 0
Finds w digits place v = (up down : ℕ) → place + down ≡ 10100 + up → v ≡ nearest w (digits * 10 ^ up) (10 ^ down)
