-- Between which patterns a number reads whose first digits are kept. Assumes nothing.
use Rattle.std.specs.Prelude.{ℕ, ◌+◌, ◌*◌, ◌^◌, ◌≤◌, ◌<◌, Bool, true, false, ◌≡◌}
use Rattle.rules.specs.Width.{Width}
use Rattle.rules.specs.Reading.{nearest}
use Rattle.theorems.proofs.Readable.{Readable}
use Rattle.scan.specs.Kept.{Kept}

-- How many units a product leaves open.
abbrev pub Opens : Bool → ℕ → Type 0
Opens true far = far ≡ 18
Opens false far = far ≡ 2

-- What a number reads as is one of the patterns from `least` to `most`.
pub record Within (v least most : ℕ) : Type 0 where
  pub above : least ≤ v
  pub below : v ≤ most

-- A significand of 63 bits or 64, with a binary exponent that has 1200 added.
pub record Raised (m e : ℕ) : Type 0 where
  pub high : 2 ^ 62 ≤ m
  pub some : 0 < e
  pub few : e < 3000

-- A number of which the digits w are kept, the last of them at the place of 10^(i - 342), lies from m * 2^e / 2^1200 on to as many units above as are open.
pub record Bounds (digits i m e : ℕ) : Type 0 where
  pub reads : (w : Width) → Readable w → (more : Bool) (far : ℕ) → Opens more far → (a d up down : ℕ) → Kept a digits d more → i + down ≡ 342 + (up + d) →
      Within (nearest w (a * 10 ^ up) (10 ^ down)) (nearest w (m * 2 ^ e) (2 ^ 1200)) (nearest w ((m + far) * 2 ^ e) (2 ^ 1200))

-- The pattern v is what both ends read as.
abbrev pub Apart : Width → ℕ → ℕ → ℕ → ℕ → Type 0
Apart w m far e v = (v ≡ nearest w (m * 2 ^ e) (2 ^ 1200)) × (nearest w ((m + far) * 2 ^ e) (2 ^ 1200) ≤ v)

-- It is what each number reads as that a product bounds.
abbrev pub AtOnce : Width → ℕ → Bool → ℕ → ℕ → Type 0
AtOnce w m more e v =
    (digits i a d up down : ℕ) → Bounds digits i m e → Kept a digits d more → i + down ≡ 342 + (up + d) → v ≡ nearest w (a * 10 ^ up) (10 ^ down)

-- What each such number reads as is one of the patterns from `least` to `most`.
abbrev pub Around : Width → ℕ → Bool → ℕ → ℕ → ℕ → Type 0
Around w m more e least most =
    (digits i a d up down : ℕ) → Bounds digits i m e → Kept a digits d more → i + down ≡ 342 + (up + d) →
    Within (nearest w (a * 10 ^ up) (10 ^ down)) least most
