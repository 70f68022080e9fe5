-- `bounds::Product::apart` meets its contract. Assumes nothing.
use mathlib.Core.Path.{◌≡◌}
use Prim.Native.Nat.{ℕ, ◌+◌, ◌-◌, ◌*◌, ◌/◌, ◌%◌, ◌^◌, ◌≤◌, ◌<◌}
use native.Mathlib.Nat.{mod-eq_of_lt, mul-le-mul_left, mul-le-mul_right}
use native.Mathlib.Omega.{arith}
use lib.Pow.{pow_mono}
use Rattle.closest.specs.declared.Target.{Target}
use Rattle.closest.specs.Targets.{Sized}
use Rattle.closest.proofs.Packing.{one_shifted, placed}
use Rattle.bounds.proofs.Decisions.{shifted, half_least, half_most, place_most, both_ends}
use Rattle.bounds.proofs.Product.apart.Goals as goal

-- What the upper half lacks to 64 bits, and the upper half with as many.
abbrev short : ℕ → ℕ
short m = 1 - m / 2 ^ 63

abbrev full : ℕ → ℕ
full m = m * 2 ^ short m % 2 ^ 64

full_is : (m : ℕ) → 2 ^ 62 ≤ m → m < 2 ^ 64 → full m ≡ m * 2 ^ short m
full_is m high fits = mod-eq_of_lt (shifted m high fits).fits

full-high : (m : ℕ) → 2 ^ 62 ≤ m → m < 2 ^ 64 → 2 ^ 63 ≤ full m
full-high m high fits = rw (full_is m high fits) (shifted m high fits).top

-- What the shift makes of what is open.
twice : (m far : ℕ) → far * 2 ^ short m ≤ 2 * far
twice m far = omega (arith, mul-le-mul_left far (pow_mono {i = short m} {j = 1} (omega arith)))

-- Half a place.
abbrev half : Target → ℕ
half t = 1 * 2 ^ (62 - t.fraction) % 2 ^ 64

half_is : (t : Target) → half t ≡ 2 ^ (62 - t.fraction)
half_is t = one_shifted (62 - t.fraction) (omega arith)

least : (t : Target) → Sized t → 2 ^ 10 ≤ half t
least t sized = half_least t.fraction (half t) sized.few (half_is t)

most : (t : Target) → half t ≤ 2 ^ 62
most t = half_most t.fraction (half t) (half_is t)

-- The exponent's field, less the hidden bit.
abbrev field : ℕ → ℕ → Target → ℕ
field m e t = e - short m + (63 - t.fraction) - t.base

pub overflow_sub-beyond : goal.overflow_sub-beyond
overflow_sub-beyond c = omega (arith, least c.args.t c.requires.1)

pub overflow_sub-beyond-2 : goal.overflow_sub-beyond-2
overflow_sub-beyond-2 c = omega (arith, full-high c.args.self.upper c.args.self.raised.high (omega arith), most c.args.t)

pub overflow_mul-half : goal.overflow_mul-half
overflow_mul-half c = omega (arith, most c.args.t)

pub overflow_mul-result : goal.overflow_mul-result
overflow_mul-result c = omega (arith, most c.args.t)

pub overflow_add-result-2 : goal.overflow_add-result-2
overflow_add-result-2 c =
    let t = c.args.t in
    let k = c.requires.1 in
    let m = c.args.self.upper in
    let s = t.fraction in
    let x = field m c.args.self.exponent t in
    let room : (x + 2) * 2 ^ s ≤ t.ones * 2 ^ s = mul-le-mul_right (2 ^ s) (omega arith) in
    rw c.from.ensures
    (omega (
      arith,
      placed k x (omega arith),
      place_most t k (full m) (half t) (2 * c.args.far) (full-high m c.args.self.raised.high (omega arith)) (omega arith) (half_is t) (omega arith)
          c.if-beyond-half.false,
      room,
      k.fits,
    ))

pub returns : goal.returns
returns c w r is =
    let t = c.args.t in
    let k = c.requires.1 in
    let m = c.args.self.upper in
    let e = c.args.self.exponent in
    let x = field m e t in
    rw c.from.ensures
    (both_ends t k (full m) (half t) (2 * c.args.far) (full-high m c.args.self.raised.high (omega arith)) (omega arith) (half_is t) (omega arith)
    c.if-beyond-half.false is r (e - short m) x (omega arith) (omega arith) m c.args.far (short m) e _
    (full_is m c.args.self.raised.high (omega arith)) (omega arith) (twice m c.args.far) (placed k x (omega arith)))
