-- `fast::times` meets its contract: the product of two exact numbers, rounded once. Assumes nothing.
use mathlib.Core.Bool.{false}
use mathlib.Core.Path.{◌≡◌, ap, ap₂, ◌∙◌}
use Prim.Native.Nat.{ℕ, ◌*◌, ◌^◌, ◌≤◌}
use native.Mathlib.Omega.{arith}
use lib.Dec.{lit<}
use lib.IntN.{pos}
use lib.Ieee.{Float, binary64, of_int, round, mul, to_bits}
use lib.Ieee.Exact.{HasValue}
use Rattle.theorems.proofs.Ieee.{round64}
use Rattle.fast.proofs.Once.{product, rounded_not_nan, whole}
use Rattle.fast.proofs.times.Goals as goal

-- The product is m * 10^k, rounded.
once : (m k : ℕ) (x : Float) → m ≤ 2 ^ 53 → HasValue x false (10 ^ k) 1 → mul binary64 (of_int binary64 (pos m)) x ≡ round binary64 false (m * 10 ^ k) 1
once m k x h v =
    product binary64 (of_int binary64 (pos m)) x m 1 (10 ^ k) 1 (lit< tt) (lit< tt) (whole m h) v
    ∙ ap₂ (round binary64 false) (omega arith) (omega arith)

abbrev Place : Type 0
Place = goal.After-ten

here : (c : Place) → mul binary64 (of_int binary64 (pos c.args.m)) c.ten.result ≡
    round binary64 false (c.args.m * 10 ^ c.args.k) 1
here c = once c.args.m c.args.k c.ten.result c.requires.0 c.ten.ensures

pub float_to_bits-result : goal.float_to_bits-result
float_to_bits-result c = rw (here c) (rounded_not_nan binary64 false _ _)

pub returns : goal.returns
returns c = ap (to_bits binary64) (here c) ∙ round64 _ _
