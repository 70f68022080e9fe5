-- A product and a sum, limb by limb from the lowest, with a carry. Assumes nothing.
use mathlib.Core.Path.{◌≡◌, refl, ap, ◌∙◌}
use mathlib.Core.List.{List}
use Prim.Native.Nat.{ℕ, zero, suc, ◌+◌, ◌-◌, ◌*◌, ◌/◌, ◌%◌, ◌^◌, ◌≤◌, ◌<◌}
use native.Mathlib.Nat.{suc-mul, div-add-mod', mul-le-mul, div-lt_iff_lt-mul}
use native.Mathlib.Omega.{arith}
use lib.ListN.{get_or, set, length, length-set}
use lib.Pow.{pow_pos}
use lib.Seq.{get_or-set_other}
use Rattle.limbs.specs.Total.{low, total, room, Becomes}
use Rattle.limbs.proofs.Low.{low-suc, low-set, place}

-- The list l times m and `add`, done in the first i limbs of a.
pub record Done (l : List ℕ) (m add : ℕ) (a : List ℕ) (carry i : ℕ) : Type 0 where
  pub within : i ≤ length l
  pub same : length a ≡ length l
  pub sum : low a i + carry * 2 ^ (32 * i) ≡ low l i * m + add
  pub rest : (k : ℕ) → i ≤ k → get_or a k 0 ≡ get_or l k 0
  pub small : carry < 2 ^ 32

-- At first none.
pub begin : (l : List ℕ) (m add : ℕ) → add < 2 ^ 32 → Done l m add l add 0
unfolding low
begin l m add h = record { within = omega arith; same = refl; sum = omega arith; rest = λ k _. refl; small = h }

module _ (x m carry : ℕ) (limb : x < 2 ^ 32) (factor : m < 2 ^ 32) (small : carry < 2 ^ 32) where
  -- A limb's product and the carry fit in two limbs.
  pub fits : x * m + carry < 2 ^ 64
  fits =
      let most : x * m ≤ (2 ^ 32 - 1) * (2 ^ 32 - 1) = mul-le-mul {n₁ = x} {m₁ = m} {n₂ = 2 ^ 32 - 1} {m₂ = 2 ^ 32 - 1} (omega arith) (omega arith) in
      omega arith

  carried : (x * m + carry) / 2 ^ 32 < 2 ^ 32
  carried = (div-lt_iff_lt-mul (pow_pos 32)).1 fits

-- A limb's product, t, is split at the place w.
turn : (w x m carry old c t : ℕ) → t ≡ x * m + carry → old + carry * w ≡ c →
    old + (t % 2 ^ 32) * w + t / 2 ^ 32 * (2 ^ 32 * w) ≡ x * w * m + c
turn w x m carry old c t e h =
    let split : t / 2 ^ 32 * 2 ^ 32 + t % 2 ^ 32 ≡ t = div-add-mod' t (2 ^ 32) in
    omega (arith, ap (λ (y : ℕ). y * w) split, ap (λ (y : ℕ). y * w) e)

-- One limb more.
pub step : (l : List ℕ) (m add : ℕ) (a : List ℕ) (carry i : ℕ) → Done l m add a carry i → i < length l → get_or a i 0 < 2 ^ 32 → m < 2 ^ 32 →
    Done l m add (set a i ((get_or a i 0 * m + carry) % 2 ^ 32)) ((get_or a i 0 * m + carry) / 2 ^ 32) (suc i)
step l m add a carry i d more limb factor =
    let x = get_or a i 0 in
    let t = x * m + carry in
    record {
      within = more;
      same = simp length-set d.same;
      sum =
          omega (
            arith,
            low-set a i (t % 2 ^ 32) (omega (arith, d.same)),
            ap (λ (y : ℕ). t / 2 ^ 32 * y) (place i),
            turn (2 ^ (32 * i)) x m carry (low a i) (low l i * m + add) t refl d.sum,
            ap (λ (y : ℕ). y * m) (low-suc l i),
            ap (λ (y : ℕ). y * (2 ^ (32 * i) * m)) (d.rest i (omega arith)),
          );
      rest = λ k above. get_or-set_other a i k (t % 2 ^ 32) 0 (λ e. omega arith) ∙ d.rest k (omega arith);
      small = carried x m carry limb factor d.small;
    }

-- What is below w has no carry at w.
uncarried : (x y carry w : ℕ) → x + carry * w ≡ y → y < w → x ≡ y
uncarried x y zero w e h = omega arith
uncarried x y (suc c) w e h = absurd (omega (arith, suc-mul c w))

-- All limbs: nothing is carried out of the room.
pub finished : (l : List ℕ) (m add : ℕ) (a : List ℕ) (carry i : ℕ) → Done l m add a carry i → i ≡ length l → total l * m + add < room l →
    Becomes l a (total l * m + add)
unfolding total room
finished l m add a carry i d all holds =
    record {
      same = d.same;
      is = rw (d.same, ← all) (uncarried _ _ carry (2 ^ (32 * i)) d.sum (rw (← all) at holds));
    }
