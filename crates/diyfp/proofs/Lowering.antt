-- A pair whose exponent falls, as an i32 holds it. Assumes nothing.
use mathlib.Core.Path.{◌≡◌, ◌∙◌}
use Prim.Native.Nat.{ℕ, ◌+◌, ◌-◌, ◌≤◌, ◌<◌}
use native.Mathlib.Omega.{arith}
use lib.IntN.{pos, ◌-ℤ◌}
use Rattle.laws.proofs.Differences.{same}
use Rattle.laws.proofs.Signed.{read, Held, Apart, held, less}
use Rattle.rules.specs.Width.{Width, off}
use Rattle.rules.specs.Pattern.{Pair, all_ones}
use Rattle.diyfp.specs.declared.DiyFp.{DiyFp}
use Rattle.diyfp.specs.Pairs.{Stands}
use Rattle.patterns.specs.Small.{Small}

module _ {w : Width} {m : Pair} {p : DiyFp} (small : Small w) (s : Stands w m p) (most : m.exp < all_ones w + w.N) (d : ℕ)
    (few : d ≤ w.N) where
  -- An i32 holds the exponent's fall by d ..
  pub lowered : Held (read p.e -ℤ pos d) m.exp (off w + d)
  lowered =
      let near : Apart m.exp (off w) = omega (arith, most, small.sum) in
      less d (held (record { is = s.exponent }) near).back (omega (arith, near, small.sum))

  -- .. and gives back the pair at that exponent, whatever its significand.
  pub beside : d ≤ m.exp → {g : ℕ} (x : ℕ) → g ≡ x → Stands w (record { f = x; exp = m.exp - d }) (record { f = g; e = read (read p.e -ℤ pos d) })
  beside room x is =
      record {
        significand = is;
        exponent = lowered.back.is ∙ same m.exp (off w + d) (m.exp - d) (off w) (omega arith);
      }
