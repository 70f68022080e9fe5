-- A number loaded into limbs and then multiplied there. Assumes nothing.
use mathlib.Core.Path.{◌∙◌}
use mathlib.Core.List.{List}
use Prim.Native.Nat.{ℕ, ◌*◌, ◌^◌, ◌≤◌, ◌<◌}
use native.Mathlib.Nat.{mul-le-mul_left, one-le-pow, zero-lt-suc}
use native.Mathlib.Omega.{arith}
use lib.Pow.{pow_pos}
use Rattle.limbs.specs.Total.{total, room, Becomes, Fits}
use Rattle.limbs.proofs.Low.{same-room}

-- Where a product has room, its first factor has.
pub without : (x y r : ℕ) → 0 < y → x * y < r → x < r
without x y r some holds =
    let one : 1 ≤ y = some in
    omega (arith, mul-le-mul_left x one)

module _ {l : List ℕ} {x fives twos : ℕ} (f : Fits l x fives twos) where
  -- The number itself has room ..
  pub bare : x < room l
  bare = without x (5 ^ fives) (room l) (one-le-pow fives 5 (zero-lt-suc 4)) (without (x * 5 ^ fives) (2 ^ twos) (room l) (pow_pos twos) f.holds)

  module _ {a : List ℕ} (load : Becomes l a x) where
    -- .. and once it is loaded, its product ..
    pub room_left : total a * 5 ^ fives * 2 ^ twos < room a
    room_left = rw (load.is, same-room a l load.same) f.holds

    -- .. which is then there.
    pub multiplied : {b : List ℕ} → Becomes a b (total a * 5 ^ fives * 2 ^ twos) → Becomes l b (x * 5 ^ fives * 2 ^ twos)
    multiplied done = record { same = done.same ∙ load.same; is = done.is ∙ rw load.is }
