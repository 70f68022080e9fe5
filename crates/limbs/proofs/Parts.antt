-- What limbs stand for where they are lent in part. Assumes nothing.
use mathlib.Core.Path.{◌≡◌, refl, sym, ap, ap₂, ◌∙◌}
use mathlib.Core.List.{List, ◌++◌, append-nil}
use Prim.Native.Nat.{ℕ, zero, suc, ◌+◌, ◌-◌, ◌*◌, ◌/◌, ◌%◌, ◌^◌, ◌≤◌, ◌<◌}
use native.Mathlib.Nat.{add-zero, add-suc, mul-zero, suc-mul, div-add-mod', lt_of_mul-lt-mul_left}
use native.Mathlib.Omega.{arith}
use borrow.Rule.Slice.PartMut.{put_mid}
use lib.ListN.{set, length, take, drop, length-set, length-drop, length-append, drop_of_length-le, get_or-append}
use lib.Pow.{pow-add, pow_pos}
use lib.Seq.{get_or-drop, get_or-take, drop-set-lt, drop_at, take_all, length-take-le}
use Rattle.limbs.specs.Total.{low, total, room, Becomes, Fits}
use Rattle.limbs.proofs.Low.{low-suc, low_same, low-set}

low_zero : (l : List ℕ) → low l 0 ≡ 0
unfolding low
low_zero l = refl

-- The first k limbs, and j more.
low_add : (l : List ℕ) (k j : ℕ) → low l (k + j) ≡ low l k + 2 ^ (32 * k) * low (drop k l) j
low_add l k zero = simp (low_zero, mul-zero, add-zero)
low_add l k (suc j) =
    let w : 2 ^ (32 * (k + j)) ≡ 2 ^ (32 * k) * 2 ^ (32 * j) = ap (λ (n : ℕ). 2 ^ n) (omega arith) ∙ pow-add 2 (32 * k) (32 * j) in
    rw add-suc
    (omega (
      arith,
      low-suc l (k + j),
      low-suc (drop k l) j,
      low_add l k j,
      ap (λ (x : ℕ). 2 ^ (32 * k) * x) (low-suc (drop k l) j),
      ap₂ (λ (x y : ℕ). x * y) (get_or-drop k l j 0) (sym w),
    ))

-- The first k limbs, and all others.
pub split : (l : List ℕ) (k : ℕ) → k ≤ length l → total l ≡ low l k + 2 ^ (32 * k) * total (drop k l)
unfolding total
split l k within =
    let n : k + length (drop k l) ≡ length l = omega (arith, length-drop k l) in
    ap (low l) (sym n) ∙ low_add l k (length (drop k l))

-- A product is 0 only where a factor is.
no_factor : (w x : ℕ) → 0 < w → w * x ≡ 0 → x ≡ 0
no_factor w zero some e = refl
no_factor zero (suc x) some e = elim some [ ]
no_factor (suc w) (suc x) some e = absurd (omega (arith, suc-mul w (suc x)))

-- Limbs that stand for 0 do so in both parts.
pub front_zero : (l : List ℕ) (k : ℕ) → k ≤ length l → total l ≡ 0 → low l k ≡ 0
front_zero l k within e = omega (arith, split l k within)

pub back_zero : (l : List ℕ) (k : ℕ) → k ≤ length l → total l ≡ 0 → total (drop k l) ≡ 0
back_zero l k within e = no_factor (2 ^ (32 * k)) (total (drop k l)) (pow_pos (32 * k)) (omega (arith, split l k within))

-- Two limbs stored below zeros.
pub loaded : (l : List ℕ) (m : ℕ) → 2 ≤ length l → total l ≡ 0 → Becomes l (set (set l 0 (m % 2 ^ 32)) 1 (m / 2 ^ 32)) m
loaded l m two e =
    let x = m % 2 ^ 32 in
    let y = m / 2 ^ 32 in
    let last = set (set l 0 x) 1 y in
    let same : length last ≡ length l = simp length-set in
    let rest : drop 2 last ≡ drop 2 l = drop-set-lt 2 (set l 0 x) 1 y (omega arith) ∙ drop-set-lt 2 l 0 x (omega arith) in
    let high : low last 2 ≡ low (set l 0 x) 1 + y * 2 ^ 32 = low-set (set l 0 x) 1 y (simp length-set (omega arith)) in
    let first : low (set l 0 x) 1 ≡ low l 0 + x * 1 = low-set l 0 x (omega arith) in
    record {
      same = same;
      is =
          omega (
            arith,
            split last 2 (omega arith),
            ap (λ (d : List ℕ). 2 ^ 64 * total d) rest,
            back_zero l 2 two e,
            high,
            first,
            front_zero l 0 (omega arith) e,
            div-add-mod' m (2 ^ 32),
          );
    }

-- The twos of whole limbs, and the others.
whole_limbs : (t : ℕ) → 2 ^ t ≡ 2 ^ (32 * (t / 32)) * 2 ^ (t % 32)
whole_limbs t = ap (λ (n : ℕ). 2 ^ n) (omega arith) ∙ pow-add 2 (32 * (t / 32)) (t % 32)

module _ {l : List ℕ} {x fives twos : ℕ} (f : Fits l x fives twos) where
  -- The limbs that are left out below, and the part above them.
  abbrev skip : ℕ
  skip = twos / 32

  abbrev part : List ℕ
  part = take (length l - skip) (drop skip l)

  some_left : skip ≤ length l
  some_left = omega (arith, f.within)

  part_is : part ≡ drop skip l
  part_is = take_all (length l - skip) (drop skip l) (omega (arith, length-drop skip l))

  room_split : room l ≡ 2 ^ (32 * skip) * room (drop skip l)
  unfolding room
  room_split =
      ap (λ (n : ℕ). 2 ^ n) (omega (arith, length-drop skip l, some_left)) ∙ pow-add 2 (32 * skip) (32 * length (drop skip l))

  -- The part has room for the number with the other twos.
  pub part_fits : Fits part x fives (twos % 32)
  part_fits =
      rw part_is
      (record {
        clear = back_zero l skip some_left f.clear;
        within = omega (arith, f.within, length-drop skip l);
        holds =
            lt_of_mul-lt-mul_left (2 ^ (32 * skip))
            (omega (arith, f.holds, room_split, ap (λ (y : ℕ). x * 5 ^ fives * y) (whole_limbs twos)));
      })

  -- With the zeros below it the part stands for the number with all twos.
  pub raised : {last : List ℕ} → Becomes part last (x * 5 ^ fives * 2 ^ (twos % 32)) →
      Becomes l (put_mid skip (length l - skip) l last) (x * 5 ^ fives * 2 ^ twos)
  raised {last} done =
      let front : length (take skip l) ≡ skip = length-take-le skip l some_left in
      let long : length last ≡ length l - skip = done.same ∙ rw part_is (length-drop skip l) in
      let below : low (take skip l ++ last) skip ≡ 0 =
      low_same (take skip l ++ last) l skip (λ i h. get_or-append (take skip l) last 0 i (omega arith) ∙ get_or-take skip l i 0 h)
      ∙ front_zero l skip some_left f.clear in
      rw (drop_of_length-le (drop skip l) {i = length l - skip} (omega (arith, length-drop skip l)), append-nil)
      (record {
        same = simp length-append (omega (arith, some_left));
        is =
            split (take skip l ++ last) skip (simp length-append (omega arith))
            ∙ rw (below, drop_at (take skip l) last skip front, done.is) (omega (arith, ap (λ (y : ℕ). x * 5 ^ fives * y) (whole_limbs twos)));
      })
