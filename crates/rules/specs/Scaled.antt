-- The three numbers scaled by a power of ten. Assumes nothing.
use Rattle.std.specs.Prelude.{ℕ, ◌+◌, ◌-◌, get_or}
use Rattle.rules.specs.Width.{Width, off}
use Rattle.rules.specs.Pattern.{Pair}
use Rattle.rules.specs.Boundaries.{upper, lower, value}
use Rattle.rules.specs.Power.{index}
use Rattle.rules.specs.Product.{product}

-- The three scaled numbers, as units of 2^-x, and the index of the power that they were scaled by.
pub record Scaled : Type 0 where
  -- upper less one
  pub H : ℕ
  -- lower plus one
  pub L : ℕ
  -- the value
  pub W : ℕ
  pub x : ℕ
  pub at : ℕ

-- A magnitude's three numbers, each times the table's entry. A product's exponent is the sum of the two and N, so -x = E + the entry's + N.
unfoldable pub scaled : Width → Pair → Scaled
scaled w m =
    let u = upper w m in
    let i = index w u.exp in
    let c = get_or w.significands i 0 in
    record {
      H = product w u.f c - 1;
      L = product w (lower w m).f c + 1;
      W = product w (value w m).f c;
      x = off w + w.twos - (u.exp + get_or w.exponents i 0 + w.N);
      at = i;
    }

-- The distance between the two bounds.
unfoldable pub D : Scaled → ℕ
D b = b.H - b.L
