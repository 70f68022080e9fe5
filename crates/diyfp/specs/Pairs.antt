-- What the code's pairs stand for, in the rules' terms. Assumes nothing.
use Rattle.std.specs.Prelude.{◌≡◌, ℕ, ◌+◌, ◌^◌, ◌≤◌, ◌<◌, ℤ, pos, neg_ℤ, ◌+ℤ◌, get_or}
use Rattle.std.proofs.Math.IntN.{sub_ℕ}
use Rattle.std.specs.Int.Signed.{mag}
use Rattle.rules.specs.Width.{Width, off}
use Rattle.rules.specs.Pattern.{Pair, all_ones}
use Rattle.rules.specs.Boundaries.{upper, lower}
use Rattle.rules.specs.Power.{index, P}
use Rattle.rules.specs.Product.{product}
use Rattle.diyfp.specs.declared.DiyFp.{DiyFp}
use Rattle.diyfp.specs.declared.Boundaries.{Boundaries}
use Rattle.diyfp.specs.declared.CachedPower.{CachedPower}

-- The code's pair p is the pair m.
pub record Stands (w : Width) (m : Pair) (p : DiyFp) : Type 0 where
  pub significand : p.f ≡ m.f
  pub exponent : p.e ≡ sub_ℕ m.exp (off w)

-- It is a pair of the kind P.
pub record StandsIn (w : Width) (P : Pair → Type 0) (p : DiyFp) : Type 0 where
  pub pair : Pair
  pub stands : Stands w pair p
  pub kind : P pair

-- A pair of at most n bits that can be shifted left until bit N - 1 is set: it is not zero, and its exponent can fall as far.
pub record Shiftable (w : Width) (n : ℕ) (m : Pair) : Type 0 where
  pub some : 0 < m.f
  pub fits : m.f < 2 ^ n
  pub least_exponent : w.N ≤ m.exp
  pub most_exponent : m.exp < all_ones w + w.N

-- The pair p becomes r: whatever pair it stood for, that stands for what `to` makes of it.
abbrev pub Becomes : Width → (Pair → Pair) → DiyFp → DiyFp → Type 0
Becomes w to p r = (m : Pair) → Stands w m p → Stands w (to m) r

-- The boundaries of the pair p.
pub record Bounds (w : Width) (p : DiyFp) (b : Boundaries) : Type 0 where
  pub minus : Becomes w (lower w) p b.minus
  pub plus : Becomes w (upper w) p b.plus

-- An exponent whose sums do not wrap. Those of the boundaries and of the table are so.
abbrev pub Near : ℤ → Type 0
Near e = mag e < 2 ^ 13

-- A pair with a significand of N bits and such an exponent.
pub record Factor (w : Width) (p : DiyFp) : Type 0 where
  pub fits : p.f < 2 ^ w.N
  pub near : Near p.e

-- The pair c.power is the table's entry for the exponent E, and stands for 10^-k.
pub record Cached (w : Width) (E : ℕ) (c : CachedPower) : Type 0 where
  pub significand : c.power.f ≡ get_or w.significands (index w E) 0
  pub exponent : c.power.e ≡ sub_ℕ (get_or w.exponents (index w E) 0) w.twos
  pub decimal : c.k ≡ neg_ℤ (P w (index w E))

-- The pair r is the product of p and q.
pub record Times (w : Width) (p q r : DiyFp) : Type 0 where
  pub significand : r.f ≡ product w p.f q.f
  pub exponent : r.e ≡ p.e +ℤ q.e +ℤ pos w.N
