-- The boundaries of a finite magnitude: where each lies, and that it can be shifted. Assumes nothing.
use mathlib.Core.Path.{◌≡◌, ap, ◌∙◌}
use Prim.Native.Nat.{ℕ, ◌+◌, ◌-◌, ◌*◌, ◌%◌, ◌^◌, ◌≤◌, ◌<◌}
use native.Mathlib.Nat.{mul_comm, mul-le-mul_left, mod-eq_of_lt}
use native.Mathlib.Omega.{arith}
use borrow.Author.Tests.{eq-eqb, ne_eqb}
use lib.Dec.{T, eqb, lit≤}
use lib.IntN.{ℤ, pos, nat_abs, sub_ℕ, ◌-ℤ◌}
use lib.Pow.{pow_pos, pow-add, pow_mono}
use lib.Signed.{non_neg}
use mir.Syntax.{w32}
use mir.Val.{SFits}
use Rattle.laws.proofs.Branches.{either}
use Rattle.laws.proofs.Exponents.{lesser_exponent}
use Rattle.laws.proofs.Signed as signed
use Rattle.laws.proofs.Signed.{read, Held, held, at_least}
use Rattle.rules.specs.Width.{Width, off}
use Rattle.rules.specs.Pattern.{Pair}
use Rattle.rules.specs.Boundaries.{shifted, upper, below, lower}
use Rattle.theorems.proofs.Boundaries.{Finite, apart, upper-shifted, value_shifted, below-exponent}
use Rattle.theorems.proofs.Widths.{Sound}
use Rattle.diyfp.specs.declared.DiyFp.{DiyFp}
use Rattle.diyfp.specs.Pairs.{Stands, StandsIn, Becomes, Shiftable, Bounds}
use Rattle.patterns.specs.Small.{Small}
use Rattle.diyfp.proofs.Lowering as lowering
use Rattle.diyfp.proofs.Lowering.{lowered}
use Rattle.diyfp.proofs.Standing.{kind}

-- Twice the significand and one has one bit more, and can be shifted.
pub upper_shiftable : {w : Width} {m : Pair} → w.S + 2 ≤ w.N → Finite w m → Shiftable w w.N (record { f = 2 * m.f + 1; exp = m.exp - 1 })
upper_shiftable {w} {m} room h =
    record {
      some = omega arith;
      fits = omega (arith, h.fits, pow-add 2 w.S 1, pow-add 2 w.S 2, pow_mono {i = w.S + 2} {j = w.N} room);
      least_exponent = omega (arith, h.least_exponent);
      most_exponent = omega (arith, h.most_exponent);
    }

module _ {w : Width} {v : DiyFp} (small : Small w) (p : StandsIn w (Finite w) v) where
  -- An i32 gives back the pair at an exponent d below the magnitude's, whatever its significand.
  pub beside : (d : ℕ) → d ≤ w.N → (m : Pair) → Stands w m v → {g : ℕ} (x : ℕ) → g ≡ x →
      Stands w (record { f = x; exp = m.exp - d }) (record { f = g; e = read (read v.e -ℤ pos d) })
  beside d few m s = lowering.beside small s (kind p m s).most_exponent d few (omega (arith, (kind p m s).least_exponent))

  -- A word of W numbers holds a small multiple of the significand.
  pub multiple : (d W : ℕ) → d ≤ 4 → 2 ^ (w.S + 3) ≤ W → (m : Pair) → Stands w m v → v.f * d % W ≡ d * m.f
  multiple d W few word m s =
      let h = kind p m s in
      let small : v.f * d < W =
      omega (arith, word, h.fits, s.significand, pow-add 2 w.S 1, pow-add 2 w.S 3, mul-le-mul_left v.f few) in
      mod-eq_of_lt small ∙ rw s.significand (mul_comm m.f d)

  -- The lower boundary where f is the hidden bit ..
  pub hidden : (m : Pair) → Stands w m v → 2 ≤ w.N → {g : ℕ} → m.f ≡ 2 ^ w.S → g ≡ 4 * m.f - 1 →
      Stands w (below w m) (record { f = g; e = read (read v.e -ℤ pos 2) })
  unfolding below
  hidden m s room at is = rw (eq-eqb m.f (2 ^ w.S) at, below) (beside 2 room m s (4 * m.f - 1) is)

  -- .. and where it is not.
  pub other : (m : Pair) → Stands w m v → 1 ≤ w.N → {g : ℕ} → (m.f ≡ 2 ^ w.S → ⊥) → g ≡ 2 * m.f - 1 →
      Stands w (below w m) (record { f = g; e = read (read v.e -ℤ pos 1) })
  unfolding below
  other m s room differs is = rw (ne_eqb m.f (2 ^ w.S) differs, below) (beside 1 room m s (2 * m.f - 1) is)

-- The lower boundary brought to the upper's exponent: an i32 holds how far the two exponents are apart, the number z, which is a
-- shift of a word of N bits, and the significand so shifted is the lower boundary's.
pub record Brought (w : Width) (m : Pair) (W b : ℕ) (z : ℤ) : Type 0 where
  pub fits : SFits w32 z
  pub natural : T (non_neg (read z))
  pub small : nat_abs (read z) < w.N
  pub lower : b * 2 ^ nat_abs (read z) % W ≡ (lower w m).f

module _ (w : Width) (q : ℕ) (sound : Sound w q) (small : Small w) (m : Pair) (h : Finite w m) where
  gap : ℕ
  gap = (below w m).exp - (upper w m).exp

  -- The upper boundary is shifted by less than N ..
  by_few : (upper-shifted w q sound m h).by < w.N
  by_few =
      let u = upper-shifted w q sound m h in
      lesser_exponent u.by w.N (omega (arith, u.fits, u.number, pow_pos u.by))

  -- .. and so is the lower one.
  few : gap < w.N
  unfolding gap below
  few =
      either (λ (a : Pair). a.exp - (upper w m).exp < w.N) (eqb m.f (2 ^ w.S))
      (λ t. omega (arith, by_few, (upper-shifted w q sound m h).exponent))
      (λ t. omega (arith, by_few, (upper-shifted w q sound m h).exponent))

  low : (below w m).exp ≤ m.exp
  unfolding below
  low = either (λ (a : Pair). a.exp ≤ m.exp) (eqb m.f (2 ^ w.S)) (λ t. omega arith) (λ t. omega arith)

  up : (upper w m).exp ≤ (below w m).exp
  up = below-exponent w q sound m h

  held_low : {d : ℤ} → d ≡ sub_ℕ (below w m).exp (off w) → Held d (below w m).exp (off w)
  held_low is = held (record { is = is }) (omega (arith, low, h.most_exponent, small.sum))

  held_upper : {d : ℤ} → d ≡ sub_ℕ (upper w m).exp (off w) → Held d (upper w m).exp (off w)
  held_upper is = held (record { is = is }) (omega (arith, low, up, h.most_exponent, small.sum))

  brought : (W : ℕ) → 2 ^ w.N ≤ W → {b u : DiyFp} → Stands w (below w m) b → Stands w (upper w m) u → Brought w m W b.f (read b.e -ℤ read u.e)
  unfolding lower gap
  brought W word {b} {u} l k =
      record {
        fits = x.fits;
        natural = rw is tt;
        small = rw is few;
        lower = rw (is, l.significand) (mod-eq_of_lt (omega (arith, word, (apart w q sound m h).below-value, (value_shifted w q sound m h).fits)));
      }
    where
      x : Held (read b.e -ℤ read u.e) ((below w m).exp + off w) (off w + (upper w m).exp)
      x =
          signed.apart (held_low l.exponent).back (held_upper k.exponent).back (omega (arith, low, up, h.most_exponent, small.sum))

      is : read (read b.e -ℤ read u.e) ≡ pos gap
      is = at_least x.back (omega (arith, up)) ∙ ap pos (omega arith)

-- Both boundaries of what v stands for, in a word of W numbers.
module _ {w : Width} {q : ℕ} (sound : Sound w q) (small : Small w) (W : ℕ) (word : 2 ^ w.N ≤ W) {v : DiyFp}
    (p : StandsIn w (Finite w) v) where
  twice : (m : Pair) → Stands w m v → v.f * 2 % W ≡ 2 * m.f
  twice = multiple small p 2 W (lit≤ tt) (omega (arith, word, pow_mono {i = w.S + 3} {j = w.N} (omega (arith, sound.deep))))

  -- The upper boundary before it is shifted ..
  abbrev pub raised : DiyFp
  raised = record { f = v.f * 2 % W + 1; e = read (read v.e -ℤ pos 1) }

  above_stands : (m : Pair) → Stands w m v → Stands w (record { f = 2 * m.f + 1; exp = m.exp - 1 }) raised
  above_stands m s = beside small p 1 small.some m s (2 * m.f + 1) (ap (λ (x : ℕ). x + 1) (twice m s))

  -- .. can be shifted.
  pub above : StandsIn w (Shiftable w w.N) raised
  above =
      record {
        pair = record { f = 2 * p.pair.f + 1; exp = p.pair.exp - 1 };
        stands = above_stands p.pair p.stands;
        kind = upper_shiftable (omega (arith, sound.deep)) p.kind;
      }

  -- With the upper boundary shifted, u, and the lower one where it lies, b, the lower one is brought to the upper's exponent.
  module _ {b u : DiyFp} (low : Becomes w (below w) v b) (high : Becomes w (shifted w.N w.N) raised u) where
    -- The shifted one is the upper boundary.
    plus : Becomes w (upper w) v u
    unfolding upper
    plus m s = high (record { f = 2 * m.f + 1; exp = m.exp - 1 }) (above_stands m s)

    -- An i32 holds the shift that this takes ..
    pub brings : (m : Pair) → Stands w m v → Brought w m W b.f (read b.e -ℤ read u.e)
    brings m s = brought w q sound small m (kind p m s) W word (low m s) (plus m s)

    -- .. and both are the boundaries.
    pub bounds : Bounds w v (record { minus = record { f = b.f * 2 ^ nat_abs (read (read b.e -ℤ read u.e)) % W; e = read u.e }; plus = u })
    unfolding lower
    bounds =
        record {
          plus = plus;
          minus =
              λ m s.
              record {
                significand = (brings m s).lower;
                exponent = (held_upper w q sound small m (kind p m s) (plus m s).exponent).back.is;
              };
        }
