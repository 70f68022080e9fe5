-- What the constants of a kind of patterns with a table are, in the rules' terms. Assumes nothing.
use lib.Dec.{T, lit≤}
use Rattle.std.specs.Prelude.{ℕ, ◌^◌, ◌≤◌, ◌≡◌, length, refl}
use Rattle.laws.proofs.Tests.{up_to}
use Rattle.rules.specs.Tables.{raised, significands32, exponents32, significands64, exponents64}
use Rattle.rules.specs.Width.{Width, w32, w64}
use Rattle.powers.specs.Handy.{Handy, handy32, handy64}
use Rattle.powers.specs.Lines.{test}

-- The constants are those of the width w. One line leads from an exponent to its entry, and on another lie the entries' exponents.
pub record Tabled (w : Width) (tens twos start : ℕ) : Type 0 where
  pub tens_is : tens ≡ w.tens
  pub twos_is : twos ≡ w.twos
  pub begins : start ≤ 2 ^ 13
  pub on_line : T (up_to (test w start) (length w.significands))
  pub whole : ℕ
  pub handy : Handy w whole

-- Binary32's ..
pub tabled32 : Tabled w32 36 151 3363
unfolding w32 raised significands32 exponents32
tabled32 = record { tens_is = refl; twos_is = refl; begins = lit≤ tt; on_line = tt; whole = 64; handy = handy32 }

-- .. and binary64's.
pub tabled64 : Tabled w64 348 1220 7938
unfolding w64 raised significands64 exponents64
tabled64 = record { tens_is = refl; twos_is = refl; begins = lit≤ tt; on_line = tt; whole = 512; handy = handy64 }
