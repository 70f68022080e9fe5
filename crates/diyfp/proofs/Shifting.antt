-- A pair shifted left at once, by the number of zeros above its highest bit set, is the rules' pair, shifted bit by bit. Assumes nothing.
use mathlib.Core.Logic.{⊎_elim}
use mathlib.Core.Path.{◌≡◌, sym, ap, ◌∙◌}
use Prim.Native.Nat.{ℕ, suc, ◌+◌, ◌-◌, ◌*◌, ◌%◌, ◌^◌, ◌≤◌, ◌<◌}
use native.Mathlib.Nat.{mod-eq_of_lt, mul_assoc, mul-le-mul_right, mul-lt-mul_of_pos_right, le_antisymm}
use native.Mathlib.Omega.{arith}
use lib.Count.{count_leading_zeros, leading_length}
use lib.IntN.{pos, ◌-ℤ◌}
use lib.Pow.{pow_pos, pow-add, pow_mono}
use mir.Facts.{to_z_pos}
use mir.Syntax.{w32}
use mir.Val.{to_z}
use Rattle.laws.proofs.Branches.{which}
use Rattle.laws.proofs.Powers.{two_halves}
use Rattle.laws.proofs.Signed.{read}
use Rattle.laws.proofs.Zeros.{Fills, fills, few_zeros}
use Rattle.rules.specs.Width.{Width}
use Rattle.rules.specs.Pattern.{Pair}
use Rattle.rules.specs.Boundaries.{shifted}
use Rattle.theorems.proofs.Boundaries.{Shifted, shifts, no_further}
use Rattle.diyfp.specs.declared.DiyFp.{DiyFp}
use Rattle.diyfp.specs.Pairs.{StandsIn, Becomes, Shiftable}
use Rattle.patterns.specs.Small.{Small}
use Rattle.diyfp.proofs.Lowering.{beside}
use Rattle.diyfp.proofs.Standing.{kind}

-- In a word of 64 bits, a number of n bits has at least the zeros above them.
pub least_zeros : {n x : ℕ} → n ≤ 64 → x < 2 ^ n → 64 - n ≤ count_leading_zeros 64 x
least_zeros {n} {x} word less =
    let l = leading_length 64 x (omega (arith, less, pow_mono {i = n} {j = 64} word)) in
    ⊎_elim (λ (few : l.0 < suc n). omega (arith, l.1))
    (λ (more : suc n ≤ l.0). absurd (omega (arith, l.3, less, pow_mono {i = suc n} {j = l.0} more, two_halves (suc n) (omega arith))))
    (which l.0 (suc n))

-- No two shifts set the highest of n bits and lose none.
one_distance : (n f y z : ℕ) → 2 ^ n ≡ 2 * 2 ^ (n - 1) → Fills n f y → Fills n f z → y ≡ z
one_distance n f y z two p q = le_antisymm (no_further f n z y two q.top p.fits) (no_further f n y z two p.top q.fits)

-- A pair shifted left by z at once.
pub shifted_by : ℕ → Pair → Pair
shifted_by z m = record { f = m.f * 2 ^ z; exp = m.exp - z }

module _ (w : Width) (m : Pair) (some : 0 < w.N) (h : Shiftable w w.N m) where
  two : 2 ^ w.N ≡ 2 * 2 ^ (w.N - 1)
  two = two_halves w.N some

  -- The plain form, one bit at a time: by some distance, which fills N bits.
  plain : Shifted w.N m (shifted w.N w.N m)
  plain = shifts w.N w.N m two h.fits (omega (arith, mul-le-mul_right (2 ^ w.N) h.some, two)) h.least_exponent

  -- If one shift by z leaves the same significand, z is the number of leading zeros.
  distance : (z : ℕ) → (shifted w.N w.N m).f ≡ m.f * 2 ^ z → z ≡ count_leading_zeros w.N m.f
  distance z is =
      one_distance w.N m.f z (count_leading_zeros w.N m.f) two
      record { top = omega (arith, plain.top, is); fits = omega (arith, plain.fits, is) }
      (fills w.N m.f h.some h.fits)

  -- It is one shift by the number of leading zeros ..
  pub at_once : shifted w.N w.N m ≡ shifted_by (count_leading_zeros w.N m.f) m
  unfolding shifted_by
  at_once =
      let by : plain.by ≡ count_leading_zeros w.N m.f = distance plain.by plain.number in
      let f : (shifted w.N w.N m).f ≡ m.f * 2 ^ count_leading_zeros w.N m.f = plain.number ∙ ap (λ (x : ℕ). m.f * 2 ^ x) by in
      let exp : (shifted w.N w.N m).exp ≡ m.exp - count_leading_zeros w.N m.f = omega (arith, plain.exponent, by) in
      λ i. record { f = f i; exp = exp i }

  -- .. and by no other number, one more or one less.
  pub no_other : (z : ℕ) → shifted w.N w.N m ≡ shifted_by z m → z ≡ count_leading_zeros w.N m.f
  unfolding shifted_by
  no_other z is = distance z (ap (λ (r : Pair). r.f) is)

-- The shift as the code does it.
module _ {w : Width} {v : DiyFp} (small : Small w) (p : StandsIn w (Shiftable w w.N) v) where
  some : 0 < v.f
  some = omega (arith, p.stands.significand, p.kind.some)

  pub within : v.f < 2 ^ w.N
  within = omega (arith, p.stands.significand, p.kind.fits)

  few : count_leading_zeros w.N v.f < w.N
  few = few_zeros w.N v.f some within

  -- The distance, cast to an i32.
  same_distance : to_z w32 (count_leading_zeros w.N v.f) ≡ pos (count_leading_zeros w.N v.f)
  same_distance = to_z_pos w32 (omega (arith, few, small.sum))

  -- A word of N bits holds the significand ..
  pub fits : v.f * 2 ^ count_leading_zeros w.N v.f < 2 ^ w.N
  fits = (fills w.N v.f some within).fits

  -- .. and the pair is the rules'.
  pub becomes : {g : ℕ} → g ≡ v.f * 2 ^ count_leading_zeros w.N v.f →
      Becomes w (shifted w.N w.N) v (record { f = g; e = read (read v.e -ℤ to_z w32 (count_leading_zeros w.N v.f)) })
  unfolding shifted_by
  becomes is m s =
      let h = kind p m s in
      rw (at_once w m small.some h, ← s.significand, same_distance)
      (beside small s h.most_exponent (count_leading_zeros w.N v.f) (omega (arith, few))
      (omega (arith, few, h.least_exponent)) _ is)

  -- So it is in a word of 64 bits, by a distance that is found to be that number.
  pub becomes_by : {z : ℕ} → w.N ≤ 64 → z ≡ count_leading_zeros w.N v.f →
      Becomes w (shifted w.N w.N) v (record { f = v.f * 2 ^ z % 2 ^ 64; e = read (read v.e -ℤ to_z w32 z) })
  becomes_by word is = rw is (becomes (mod-eq_of_lt (omega (arith, fits, pow_mono {i = w.N} {j = 64} word))))

  -- In a word of 64 bits there are as many zeros more as the word has bits more.
  pub zeros : w.N ≤ 64 → count_leading_zeros 64 v.f ≡ count_leading_zeros w.N v.f + (64 - w.N)
  zeros word =
      let z = count_leading_zeros w.N v.f in
      let one_less : 63 ≡ w.N - 1 + (64 - w.N) = omega (arith, small.some) in
      let all : 64 ≡ w.N + (64 - w.N) = omega arith in
      let top : 2 ^ 63 ≡ 2 ^ (w.N - 1) * 2 ^ (64 - w.N) = ap (λ (x : ℕ). 2 ^ x) one_less ∙ pow-add 2 (w.N - 1) (64 - w.N) in
      let end : 2 ^ 64 ≡ 2 ^ w.N * 2 ^ (64 - w.N) = ap (λ (x : ℕ). 2 ^ x) all ∙ pow-add 2 w.N (64 - w.N) in
      let both : v.f * 2 ^ (z + (64 - w.N)) ≡ v.f * 2 ^ z * 2 ^ (64 - w.N) = rw pow-add (sym (mul_assoc v.f (2 ^ z) (2 ^ (64 - w.N)))) in
      let less : v.f < 2 ^ 64 = omega (arith, within, pow_mono {i = w.N} {j = 64} word) in
      one_distance 64 v.f (count_leading_zeros 64 v.f) (z + (64 - w.N)) (two_halves 64 (omega arith)) (fills 64 v.f some less)
      record {
        top = rw (both, top) (mul-le-mul_right (2 ^ (64 - w.N)) (fills w.N v.f some within).top);
        fits = rw (both, end) (mul-lt-mul_of_pos_right (fills w.N v.f some within).fits (pow_pos (64 - w.N)));
      }
