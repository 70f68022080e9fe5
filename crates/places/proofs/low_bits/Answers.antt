-- `places::low_bits` meets its contract: a mask leaves a remainder. Assumes nothing.
use mathlib.Core.Path.{◌≡◌, ◌∙◌}
use Prim.Native.Nat.{ℕ, ◌*◌, ◌%◌, ◌^◌, ◌≤◌}
use native.Mathlib.Nat.{one-mul}
use native.Mathlib.Omega.{arith}
use lib.Bits.{and_mask}
use lib.Dec.{lit<}
use lib.Pow.{shl_exact}
use Rattle.places.proofs.low_bits.Goals as goal

-- `1 << x` is 2^x.
one_shifted : (x : ℕ) → x ≤ 60 → 1 * 2 ^ x % 2 ^ 64 ≡ 2 ^ x
one_shifted x h = shl_exact {a = 1} 1 x 64 (lit< tt) (omega arith) ∙ one-mul (2 ^ x)

pub returns : goal.returns
returns c = rw (one_shifted _ c.requires) (and_mask c.args.v c.args.x)
