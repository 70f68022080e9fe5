-- The table's index from an exponent, by a multiplication and two shifts: tested at each exponent. Assumes nothing.
use mathlib.Core.Path.{◌≡◌, sym, ◌∙◌}
use mathlib.Core.Logic.{⊎_elim}
use Prim.Native.Nat.{ℕ, ◌+◌, ◌-◌, ◌*◌, ◌/◌, ◌^◌, ◌≤◌, ◌<◌}
use native.Mathlib.Nat.{le_antisymm, mul-le-mul_left, mul-le-mul_right}
use native.Mathlib.Omega.{arith}
use lib.Dec.{lit<}
use lib.IntN.{ℤ, pos, nat_abs, sub_ℕ, ◌+ℤ◌, ◌-ℤ◌, ◌*ℤ◌}
use lib.Signed.{shr_z, quot_z}
use mir.Syntax.{w32}
use mir.Val.{SFits}
use Rattle.laws.proofs.Branches.{which}
use Rattle.laws.proofs.Differences.{is_pos, crossed}
use Rattle.laws.proofs.Differences as differences
use Rattle.laws.proofs.Exponents.{ten_mono}
use Rattle.laws.proofs.Signed as signed
use Rattle.laws.proofs.Signed.{read, Is, Held, held, unchanged, also, more, scaled, floored, at_least}
use Rattle.laws.proofs.Tests.{Holds, every}
use Rattle.rules.specs.Width.{Width, off}
use Rattle.rules.specs.Pattern.{all_ones}
use Rattle.rules.specs.Power.{j_raised, j, k}
use Rattle.theorems.proofs.Widths.{Sound}
use Rattle.theorems.proofs.Power.{Least, j_least, j_inside}
use Rattle.powers.specs.Powers.{Served, Indexable}
use Rattle.powers.specs.Handy.{Handy, quotient, test}
use Rattle.patterns.specs.Small.{Small}

-- The code's steps from an exponent e to k. First e + N - 3 ..
abbrev pub raised : Width → ℤ → ℤ
raised w e = read e +ℤ pos (w.N - 3)

-- .. times a number that serves for 2^18 * log10(2) ..
abbrev pub multiplied : Width → ℤ → ℤ
multiplied w e = read (raised w e) *ℤ pos 78913

-- .. and divided by 2^18, rounded down, is -j ..
abbrev pub less_j : Width → ℤ → ℤ
less_j w e = shr_z (read (multiplied w e)) (2 ^ 18)

-- .. so that k is as much less.
abbrev pub k_of : Width → ℤ → ℤ
k_of w e = pos (w.tens - 1) -ℤ read (less_j w e)

-- Only one number is the smallest.
least_alone : (a b r s : ℕ) → Least a b r → a ≤ 10 ^ s * b → 10 ^ (s - 1) * b < a → 0 < s → r ≡ s
least_alone a b r s l reached short some =
    le_antisymm (⊎_elim (λ less. absurd (omega (arith, l.smaller s less, reached))) (λ more. more) (which s r))
    (⊎_elim
    (λ less. absurd (omega (arith, l.reached, mul-le-mul_right b (ten_mono r (s - 1) (omega arith)), short))) (λ more. more)
    (which r s))

-- Every step is held, and the last is k.
pub record Steps (w : Width) (e : ℤ) (E : ℕ) : Type 0 where
  pub raises : SFits w32 (raised w e)
  pub multiplies : SFits w32 (multiplied w e)
  pub subtracts : SFits w32 (k_of w e)
  pub is : read (k_of w e) ≡ k w E

-- A served exponent is so under whatever number it is known by.
pub most : {w : Width} {e : ℤ} → Served w e → (E : ℕ) → e ≡ sub_ℕ E (off w) → E ≤ all_ones w + w.S
most {w} s E p = omega (arith, s.most, crossed E (off w) s.raised (off w) (sym p ∙ s.exponent))

-- k is the search's number less eight.
k-raised : (w : Width) (E : ℕ) → 1 ≤ w.tens → Is (k w E) (j_raised w E) 8
unfolding k j
k-raised w E some =
    let sum : Is (j w E +ℤ pos (w.tens - 1)) (j_raised w E + (w.tens - 1)) (w.tens + 7) = record { is = differences.more (j_raised w E) (w.tens + 7) (w.tens - 1) } in
    also (j_raised w E) 8 sum (omega arith)

module _ {w : Width} {q m : ℕ} (sound : Sound w q) (small : Small w) (handy : Handy w m) {e : ℤ} (E : ℕ) (p : Is e E (off w))
    (finite : E ≤ all_ones w + w.S) where
  j_is : j_raised w E + quotient w m E ≡ m + (w.tens + 7)
  j_is = told (every (test w m) (all_ones w + w.S + 1) handy.tested E (omega arith))
    where
      told : Holds (test w m E) → j_raised w E + quotient w m E ≡ m + (w.tens + 7)
      told (below, (reached, short)) =
          let r = m + (w.tens + 7) - quotient w m E in
          omega (arith, below, least_alone _ _ (j_raised w E) r (j_least w q sound E finite) reached short (omega (arith, below)))

  first : Held (raised w e) (E + (w.N - 3)) (off w)
  first = more (w.N - 3) (held p (omega (arith, small.sum))).back (omega (arith, small.sum))

  second : Held (multiplied w e) ((E + (w.N - 3)) * 78913) (off w * 78913)
  second = scaled 78913 first.back (omega (arith, small.sum, sound.wide))

  third : Held (less_j w e) (quotient w m E) m
  third =
      held
      (floored (2 ^ 18) m (lit< tt) (omega arith)
      (also ((E + (w.N - 3)) * 78913 + (m * 2 ^ 18 - off w * 78913)) (m * 2 ^ 18) second.back (omega (arith, handy.whole))))
      (omega (arith, j_is, small.sum, handy.few))

  fourth : Held (k_of w e) (w.tens - 1 + m) (0 + quotient w m E)
  fourth =
      signed.apart (record { is = is_pos (w.tens - 1) (w.tens - 1) 0 (omega arith) }) third.back (omega (arith, j_is, small.sum, handy.few))

  -- The last difference is held with a smaller slope s too: what it comes to is what decides.
  pub held_below : {s : ℕ} → s ≤ 78913 → SFits w32 (pos (w.tens - 1) -ℤ read (shr_z (read (read (raised w e) *ℤ pos s)) (2 ^ 18)))
  held_below {s} less =
      let n = E + (w.N - 3) in
      let low : off w * s ≤ off w * 78913 = mul-le-mul_left (off w) less in
      let slow : n * s ≤ n * 78913 = mul-le-mul_left n less in
      let product : Held (read (raised w e) *ℤ pos s) (n * s) (off w * s) =
      scaled s first.back (record { above = omega (arith, slow, small.sum, sound.wide); under = omega (arith, low, small.sum, sound.wide) }) in
      let shift : Held (shr_z (read (read (raised w e) *ℤ pos s)) (2 ^ 18)) ((n * s + (m * 2 ^ 18 - off w * s)) / 2 ^ 18) m =
      held
      (floored (2 ^ 18) m (lit< tt) (omega arith)
      (also (n * s + (m * 2 ^ 18 - off w * s)) (m * 2 ^ 18) product.back (omega (arith, low, handy.whole))))
      (record { above = omega (arith, slow, small.sum, handy.few); under = omega (arith, handy.few) }) in
      (signed.apart (record { is = is_pos (w.tens - 1) (w.tens - 1) 0 (omega arith) }) shift.back
      (record { above = omega (arith, small.sum, handy.few); under = omega (arith, slow, small.sum, handy.few) })).fits

  -- The code's steps give k.
  pub steps : Steps w e E
  steps =
      record {
        raises = first.fits;
        multiplies = second.fits;
        subtracts = fourth.fits;
        is = (also (j_raised w E) 8 fourth.back (omega (arith, j_is, sound.tens))).is ∙ sym (k-raised w E sound.tens).is;
      }

module _ {w : Width} {q : ℕ} (sound : Sound w q) (small : Small w) (E : ℕ) (finite : E ≤ all_ones w + w.S) where
  few : j_raised w E < 2 ^ 13
  few = omega (arith, j_inside w q sound E finite, small.sum)

  -- k has an index.
  pub k_indexable : Indexable (k w E)
  k_indexable = record { raised = j_raised w E; is = (k-raised w E sound.tens).is; few = few }

  -- k is read as it was written.
  pub k_read : read (k w E) ≡ k w E
  k_read = unchanged (k-raised w E sound.tens) (omega (arith, few))

-- A quotient toward zero asks for another entry: for the second and not the first at k = -1.
pub not_toward_zero : nat_abs (quot_z (sub_ℕ 0 1) (pos 8) +ℤ pos 1) ≡ nat_abs (shr_z (sub_ℕ 0 1) 8 +ℤ pos 1) → ⊥
not_toward_zero e = omega (arith, e)
