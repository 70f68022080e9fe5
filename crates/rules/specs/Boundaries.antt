-- From a magnitude to its upper and lower boundary and its value, at one exponent. Assumes nothing.
use Rattle.std.specs.Prelude.{ℕ, zero, suc, ◌+◌, ◌-◌, ◌*◌, ◌^◌, true, false, leb, eqb}
use Rattle.rules.specs.Width.{Width}
use Rattle.rules.specs.Pattern.{Pair}

-- Shifted left until bit n - 1 is set, at most `fuel` times, the exponent falling by one each time.
unfoldable pub shifted : ℕ → ℕ → Pair → Pair
shifted n zero a = a
shifted n (suc fuel) a =
    elim (leb (2 ^ (n - 1)) a.f) [
      | true ↦ a
      | false ↦ shifted n fuel (record { f = a.f * 2; exp = a.exp - 1 })
    ]

-- The upper boundary, 2f + 1 at e - 1, shifted.
unfoldable pub upper : Width → Pair → Pair
upper w m = shifted w.N w.N (record { f = 2 * m.f + 1; exp = m.exp - 1 })

-- The lower boundary where it lies: 4f - 1 at e - 2 if f is the hidden bit, else 2f - 1 at e - 1.
unfoldable pub below : Width → Pair → Pair
below w m =
    elim (eqb m.f (2 ^ w.S)) [
      | true ↦ record { f = 4 * m.f - 1; exp = m.exp - 2 }
      | false ↦ record { f = 2 * m.f - 1; exp = m.exp - 1 }
    ]

-- The lower boundary, brought to the upper's exponent.
unfoldable pub lower : Width → Pair → Pair
lower w m =
    let a = below w m in
    let E = (upper w m).exp in
    record { f = a.f * 2 ^ (a.exp - E); exp = E }

-- The value, shifted.
unfoldable pub value : Width → Pair → Pair
value w m = shifted w.N w.N m
