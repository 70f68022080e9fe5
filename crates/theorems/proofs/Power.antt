-- The power of ten that an exponent asks for: j is the smallest that serves, its entry is in the table, and x has few values. Assumes nothing.
use mathlib.Core.Path.{◌≡◌}
use mathlib.Core.Logic.{⊎_elim}
use Prim.Native.Nat.{ℕ, zero, suc, ◌+◌, ◌-◌, ◌*◌, ◌/◌, ◌^◌, ◌≤◌, ◌<◌}
use native.Mathlib.Nat.{mul-le-mul_left, mul-le-mul_right, mul-lt-mul_of_pos_right, pow-succ', le_trans, lt_of_le_of_lt, add-zero, one-mul, lt_of_mul-lt-mul_right, mul-pos}
use native.Mathlib.Omega.{arith}
use lib.Dec.{leb, leb→le, nleb→lt}
use lib.IntN.{pos, nat_abs, sub_ℕ, ◌+ℤ◌}
use lib.ListN.{length, get_or}
use lib.Pow.{pow_pos, pow-add, pow_mono}
use lib.Signed.{shr_z}
use Rattle.laws.proofs.Branches.{either, which}
use Rattle.laws.proofs.Exponents.{lesser_exponent, ten_mono}
use Rattle.laws.proofs.Differences.{cases, is_pos, same, add}
use Rattle.laws.proofs.Powers.{ten_pos}
use Rattle.rules.specs.Width.{Width, off}
use Rattle.rules.specs.Pattern.{all_ones}
use Rattle.rules.specs.Power.{least_ten, j_raised, j, k, index}
use Rattle.rules.proofs.Table.{HalfUnit, numerator, denominator}
use Rattle.theorems.proofs.Widths.{Sound, top_bit}

-- The number r is the smallest at which 10^r * b reaches a.
pub record Least (a b r : ℕ) : Type 0 where
  pub reached : a ≤ 10 ^ r * b
  pub smaller : (i : ℕ) → i < r → 10 ^ i * b < a

-- The search finds it, where it is not past the search's end.
pub least : (fuel a b i : ℕ) → ((l : ℕ) → l < i → 10 ^ l * b < a) → a ≤ 10 ^ (i + fuel) * b → Least a b (least_ten fuel a b i)
unfolding least_ten
least zero a b i before end = record { reached = rw add-zero at end; smaller = before }
least (suc fuel) a b i before end =
    either (Least a b) (leb a (10 ^ i * b)) (λ t. record { reached = leb→le a (10 ^ i * b) t; smaller = before })
    (λ t. least fuel a b (suc i) (also_here (nleb→lt a (10 ^ i * b) t)) (rw one_later at end))
  where
    one_later : i + suc fuel ≡ suc i + fuel
    one_later = omega arith

    also_here : 10 ^ i * b < a → (l : ℕ) → l < suc i → 10 ^ l * b < a
    also_here short l less = lt_of_le_of_lt (mul-le-mul_right b (ten_mono l i (omega arith))) short

-- A floor division by eight, one added: nothing in it is below zero where r stands for r - 8.
shifted_eight : (r : ℕ) → nat_abs (shr_z (sub_ℕ r 8) 8 +ℤ pos 1) ≡ r / 8
shifted_eight r =
    cases (λ z. nat_abs (shr_z z 8 +ℤ pos 1) ≡ r / 8) r 8
    (λ less.
    let none : (8 - suc r) / 8 ≡ 0 = omega arith in
    let also : r / 8 ≡ 0 = omega arith in
    rw (none, also))
    (λ more. omega arith)

-- The table's index in naturals.
pub index_is : (w : Width) (E : ℕ) → 1 ≤ w.tens → index w E ≡ j_raised w E / 8
unfolding index k j
index_is w E some =
    let r = j_raised w E in
    let t = w.tens in
    let natural : pos (t - 1) ≡ sub_ℕ (t - 1) 0 = is_pos (t - 1) (t - 1) 0 (add-zero _) in
    let less : sub_ℕ (r + (t - 1)) (t + 7 + 0) ≡ sub_ℕ r 8 = same (r + (t - 1)) (t + 7 + 0) r 8 (omega arith) in
    rw (natural, add, less) (shifted_eight r)

-- How an exponent E, with `off` added, is served: the table has its entry; x = off + twos - (E + the entry's exponent + N) is from N - 30
-- to N - 4; and 2^(E + N) * 10^P is at least 8 and below 8 * 10^8.
pub record Reach (w : Width) (E : ℕ) : Type 0 where
  pub inside : index w E < length w.significands
  pub least_x : E + get_or w.exponents (index w E) 0 + w.N + (w.N - 30) ≤ off w + w.twos
  pub most_x : off w + w.twos ≤ E + get_or w.exponents (index w E) 0 + w.N + (w.N - 4)
  pub least_power : 8 * (10 ^ w.tens * 2 ^ off w) ≤ 2 ^ (E + w.N) * 10 ^ (8 * index w E)
  pub most_power : 2 ^ (E + w.N) * 10 ^ (8 * index w E) < 8 * 10 ^ 8 * (10 ^ w.tens * 2 ^ off w)

-- Of two products of powers of two, the lesser has the lesser sum of exponents.
lesser_sum : (a b c d e f : ℕ) → 2 ^ a * (2 ^ b * 2 ^ c) < 2 ^ d * (2 ^ e * 2 ^ f) → a + (b + c) < d + (e + f)
lesser_sum a b c d e f less =
    let powers : 2 ^ (a + (b + c)) < 2 ^ (d + (e + f)) = simp pow-add less in
    lesser_exponent (a + (b + c)) (d + (e + f)) powers

-- An entry's significand c fills its bits, and the power of ten is bounded, so the entry's exponent is. Here y is 2 to that exponent,
-- I = 10^(8 * i), t = 2^twos, d = 10^tens, n = 2^N, e = 2^(E + N) and a = 2^off.
most_exponent : (c I t d y n e a : ℕ) → HalfUnit c (I * t) (d * y) → n ≤ 2 * c → 2 ^ 30 ≤ n → e * I < 8 * 10 ^ 8 * (d * a) → 0 < t →
    e * (y * n) < 2 ^ 31 * (a * t)
most_exponent c I t d y n e a half top wide most some =
    lt_of_mul-lt-mul_right d
    (omega (
      arith,
      mul-le-mul_left e half.above,
      mul-le-mul_right (e * (d * y)) top,
      mul-lt-mul_of_pos_right most some,
      mul-le-mul_right (e * (y * d)) wide,
    ))

least_exponent : (c I t d y n e a : ℕ) → HalfUnit c (I * t) (d * y) → c < n → 8 * (d * a) ≤ e * I → 0 < e * (d * y) →
    8 * (a * t) < e * (y * n)
least_exponent c I t d y n e a half fits least some =
    lt_of_mul-lt-mul_right d
    (omega (arith, mul-le-mul_left e half.under, mul-le-mul_right (e * (d * y)) fits, mul-le-mul_right t least))

-- What the search finds bounds 2^(E + N) * 10^P, here e * I: now R = 10^r, Q = 10^(r - 1) and I = 10^(8 * (r / 8)).
at_least_eight : (d a e I R : ℕ) → d * 10 ^ 7 * (a * 8) ≤ R * e → R ≤ I * 10 ^ 7 → 8 * (d * a) ≤ e * I
at_least_eight d a e I R reached near = omega (arith, mul-le-mul_right e near)

below_eight : (d a e I Q : ℕ) → Q * e < d * 10 ^ 7 * (a * 8) → I ≤ 10 * Q → e * I < 8 * 10 ^ 8 * (d * a)
below_eight d a e I Q short near = omega (arith, mul-le-mul_right e near)

module _ (w : Width) (q : ℕ) (s : Sound w q) (E : ℕ) (finite : E ≤ all_ones w + w.S) where
  enough : 10 ^ (w.tens + 7) * 2 ^ (off w + 3) ≤ 10 ^ (8 * length w.significands - 1) * 2 ^ (E + w.N)
  enough =
      le_trans s.last (mul-le-mul_left (10 ^ (8 * length w.significands - 1)) (pow_mono {i = w.N} {j = E + w.N} (omega arith)))

  -- j is the smallest whole number with 10^j >= 2^(3 - N - E): both sides times 10^(tens + 7) and 2^(E + N), as in its definition.
  pub j_least : Least (10 ^ (w.tens + 7) * 2 ^ (off w + 3)) (2 ^ (E + w.N)) (j_raised w E)
  unfolding j_raised
  j_least =
      least (3 * w.tens) (10 ^ (w.tens + 7) * 2 ^ (off w + 3)) (2 ^ (E + w.N)) 0 (λ l less. absurd (omega arith))
      (le_trans enough
      (mul-le-mul_right (2 ^ (E + w.N)) (ten_mono (8 * length w.significands - 1) (0 + 3 * w.tens) (omega (arith, s.fuel)))))

  -- It is above zero, where the search begins.
  pub j_some : 0 < j_raised w E
  j_some =
      ⊎_elim (λ less. less)
      (λ more.
      let none : j_raised w E ≡ 0 = omega arith in
      let reached = rw (none, one-mul) at j_least.reached in
      absurd (omega (arith, s.first, pow_mono {i = E + w.N} {j = all_ones w + w.S + w.N} (omega arith)))) (which 0 (j_raised w E))

  -- Its entry is in the table.
  pub j_inside : j_raised w E < 8 * length w.significands
  j_inside =
      ⊎_elim (λ less. less)
      (λ more. absurd (omega (arith, enough, j_least.smaller (8 * length w.significands - 1) (omega (arith, j_some)))))
      (which (j_raised w E) (8 * length w.significands))

  abbrev i : ℕ
  i = j_raised w E / 8

  inside : i < length w.significands
  inside = omega (arith, j_inside)

  least_power : 8 * (10 ^ w.tens * 2 ^ off w) ≤ 2 ^ (E + w.N) * 10 ^ (8 * i)
  least_power =
      let r = j_raised w E in
      at_least_eight (10 ^ w.tens) (2 ^ off w) (2 ^ (E + w.N)) (10 ^ (8 * i)) (10 ^ r)
      (rw (pow-add 10 w.tens 7, pow-add 2 (off w) 3) at j_least.reached)
      (rw (← pow-add) (ten_mono r (8 * i + 7) (omega arith)))

  most_power : 2 ^ (E + w.N) * 10 ^ (8 * i) < 8 * 10 ^ 8 * (10 ^ w.tens * 2 ^ off w)
  most_power =
      let r = j_raised w E in
      below_eight (10 ^ w.tens) (2 ^ off w) (2 ^ (E + w.N)) (10 ^ (8 * i)) (10 ^ (r - 1))
      (rw (pow-add 10 w.tens 7, pow-add 2 (off w) 3) at (j_least.smaller (r - 1) (omega (arith, j_some))))
      (rw (← pow-succ') (ten_mono (8 * i) (suc (r - 1)) (omega (arith, j_some))))

  least_x : E + w.N + (get_or w.exponents i 0 + w.N) < 31 + (off w + w.twos)
  unfolding numerator denominator
  least_x =
      let entry = s.entry i inside in
      lesser_sum (E + w.N) (get_or w.exponents i 0) w.N 31 (off w) w.twos
      (most_exponent _ _ _ _ _ _ _ _ entry.half (omega (arith, entry.top, top_bit s)) (pow_mono s.wide) most_power (pow_pos w.twos))

  most_x : 3 + (off w + w.twos) < E + w.N + (get_or w.exponents i 0 + w.N)
  unfolding numerator denominator
  most_x =
      let y = get_or w.exponents i 0 in
      lesser_sum 3 (off w) w.twos (E + w.N) y w.N
      (least_exponent _ _ _ _ _ _ _ _ (s.entry i inside).half (s.entry i inside).fits least_power
      (mul-pos (pow_pos (E + w.N)) (mul-pos (ten_pos w.tens) (pow_pos y))))

  -- Every exponent that a finite magnitude's upper boundary has is served.
  pub reach : Reach w E
  reach =
      let is = index_is w E s.tens in
      record {
        inside = rw is inside;
        least_x = rw is (omega (arith, s.wide, least_x));
        most_x = rw is (omega (arith, s.wide, most_x));
        least_power = rw is least_power;
        most_power = rw is most_power;
      }
