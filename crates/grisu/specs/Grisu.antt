-- What scaling a magnitude gives, and what its digits and exponent are. Assumes nothing.
use Rattle.std.specs.Prelude.{ℕ, List, ◌≡◌, neg_ℤ}
use Rattle.laws.specs.Puts.{Puts}
use Rattle.rules.specs.Numbers.{numeral}
use Rattle.rules.specs.Width.{Width}
use Rattle.rules.specs.Pattern.{Pair}
use Rattle.rules.specs.Power.{P}
use Rattle.rules.specs.Scaled.{scaled, D}
use Rattle.rules.specs.Digits.{decimal}
use Rattle.grisu.specs.declared.Start.{Start}
use Rattle.grisu.specs.declared.Decimal.{Decimal}

-- The numbers of s are H, W, D and x of the magnitude m, and its k is -P.
pub record ScaledTo (w : Width) (m : Pair) (s : Start) : Type 0 where
  pub high : s.numbers.h ≡ (scaled w m).H
  pub middle : s.numbers.w ≡ (scaled w m).W
  pub room : s.numbers.delta ≡ D (scaled w m)
  pub shift : s.numbers.x ≡ (scaled w m).x
  pub power : s.k ≡ neg_ℤ (P w (scaled w m).at)

-- The decimal of the magnitude m: d.len digits stand from the buffer's start on, and d.k is its exponent.
pub record Decided (w : Width) (m : Pair) (d : Decimal) (old new : List ℕ) : Type 0 where
  pub length_is : d.len ≡ (decimal w m).len
  pub exponent_is : d.k ≡ (decimal w m).k
  pub text : Puts (numeral (decimal w m).len (decimal w m).digits) old 0 new d.len
