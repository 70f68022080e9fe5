-- What a scan says of a text: its case, and of a number its digits and its power of ten. Assumes nothing.
use Rattle.std.specs.Prelude.{◌≡◌, ℕ, ◌+◌, ◌*◌, ◌^◌, ◌≤◌, Bool, List, Option, None, Some}
use Rattle.rules.specs.Reading.{Unsigned, no_number, over, exact, refused, notANumber, infinite, number}
use Rattle.scan.specs.declared.Decimal.{Decimal}
use Rattle.scan.specs.declared.Scanned.{Scanned}
use Rattle.scan.specs.declared.Scanned.TheVariants.{NotANumber, Infinite, Number}
use Rattle.scan.specs.Goes.{Keeps}
use Rattle.scan.specs.Mantissa.{mantissa, behind_sign}

-- What a number that was scanned says of its text t.
pub record Says (t : List ℕ) (x : Decimal) : Type 0 where
  pub up : ℕ
  pub down : ℕ
  pub says : exact t ≡ number x.negative (mantissa 0 (behind_sign x.negative t) * 10 ^ up) (10 ^ down)
  pub kept : Keeps (mantissa 0 (behind_sign x.negative t)) x.held
  pub place : x.place + down ≡ 10100 + (up + x.held.dropped)
  pub few : x.held.dropped ≤ 64
  pub most : down ≤ 10063
  pub least : up ≤ 9999

-- What a scan's answer says of the text t: none is given of a text that is refused.
abbrev pub Scans : List ℕ → Option Scanned → Type 0
Scans t None = exact t ≡ refused
Scans t (Some NotANumber) = exact t ≡ notANumber
Scans t (Some (Infinite s)) = exact t ≡ infinite s
Scans t (Some (Number x)) = Says t x

-- What a number that was scanned says of u, what its text says without a sign, and of m, the number that its digits make.
pub record Finds (u : Unsigned) (m : ℕ) (negative : Bool) (x : Decimal) : Type 0 where
  pub up : ℕ
  pub down : ℕ
  pub sign : x.negative ≡ negative
  pub says : u ≡ over (m * 10 ^ up) (10 ^ down)
  pub kept : Keeps m x.held
  pub place : x.place + down ≡ 10100 + (up + x.held.dropped)
  pub few : x.held.dropped ≤ 64
  pub most : down ≤ 10063
  pub least : up ≤ 9999

-- The same of an answer: there is a number, or none.
abbrev pub Tells : Unsigned → ℕ → Bool → Option Decimal → Type 0
Tells u m negative None = u ≡ no_number
Tells u m negative (Some x) = Finds u m negative x
