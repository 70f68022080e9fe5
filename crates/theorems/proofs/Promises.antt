-- What is promised of the rules, at 32 and at 64 bits: each a line that cites the one law over the width. Assumes nothing.
use mathlib.Core.Bool.{Bool, not}
use mathlib.Core.List.{List, [], map}
use mathlib.Core.Path.{◌≡◌}
use Prim.Native.Nat.{ℕ, suc, ◌^◌, ◌≤◌, ◌<◌}
use lib.Dec.{T}
use lib.Ieee.{binary32, binary64, round, of_bits}
use lib.ListN.{length, get_or}
use Rattle.rules.specs.Width.{Width, w32, w64}
use Rattle.rules.specs.Pattern.{significand, special, magnitude}
use Rattle.rules.specs.Digits.{decimal}
use Rattle.rules.specs.Text.{text}
use Rattle.rules.specs.Reading.{number, exact, IsNearest, with_sign, ReadsAs}
use Rattle.rules.specs.Reader.{reading}
use Rattle.rules.specs.Row.{row, cut}
use Rattle.theorems.proofs.Widths.{w16}
use Rattle.theorems.proofs.Scale.{finite}
use Rattle.theorems.proofs.Printable.{Printable, printable16, printable32, printable64}
use Rattle.theorems.proofs.Decimal.{printed}
use Rattle.theorems.proofs.TextLength.{Within, text-length}
use Rattle.theorems.proofs.Decoding.{agree32, agree64}
use Rattle.theorems.proofs.Rows.{FinitePatterns, cut-row, row_restored, same_row}
use Rattle.theorems.proofs.RoundTrip.{Inside, inside, restored, only_restored, rounded, distinct}
use Rattle.theorems.proofs.ReadBack.{Pattern, read_back}

-- A finite pattern other than zero.
pub record Ordinary (w : Width) (v : ℕ) : Type 0 where
  pub finite : T (not (special w v))
  pub some : 0 < (magnitude w v).f

-- How many digits are printed.
few : (w : Width) (q : ℕ) → Printable w q → (v : ℕ) → Ordinary w v → (decimal w (magnitude w v)).len ≤ suc q
few w q p v o = (printed w q p (magnitude w v) (finite w v p.sound.finite o.finite o.some)).few

-- At most 9, 17 and, with binary16's numbers, 5 digits.
pub digits32 : (v : ℕ) → Ordinary w32 v → (decimal w32 (magnitude w32 v)).len ≤ 9
digits32 = few w32 8 printable32

pub digits64 : (v : ℕ) → Ordinary w64 v → (decimal w64 (magnitude w64 v)).len ≤ 17
digits64 = few w64 16 printable64

pub digits16 : (v : ℕ) → Ordinary w16 v → (decimal w16 (magnitude w16 v)).len ≤ 5
digits16 = few w16 4 printable16

-- Every text has 3 to 25 bytes.
pub length32 : (v : ℕ) → Within 25 (text w32 v)
length32 = text-length w32 8 printable32

pub length64 : (v : ℕ) → Within 25 (text w64 v)
length64 = text-length w64 16 printable64

-- The text of a finite pattern other than zero lies strictly between the pattern's midpoints.
pub inside32 : (v : ℕ) → Ordinary w32 v → Inside w32 v
inside32 v o = inside w32 8 printable32 v o.finite o.some

pub inside64 : (v : ℕ) → Ordinary w64 v → Inside w64 v
inside64 v o = inside w64 16 printable64 v o.finite o.some

-- The text of every finite pattern reads as the pattern.
pub restored32 : (v : ℕ) → v < 2 ^ 32 → T (not (special w32 v)) → ReadsAs w32 (text w32 v) v
unfolding w32
restored32 v bound finite = restored w32 8 printable32 v finite bound

pub restored64 : (v : ℕ) → v < 2 ^ 64 → T (not (special w64 v)) → ReadsAs w64 (text w64 v) v
unfolding w64
restored64 v bound finite = restored w64 16 printable64 v finite bound

-- And as no other.
pub only32 : (v : ℕ) → v < 2 ^ 32 → T (not (special w32 v)) → (s : Bool) (n d u : ℕ) → exact (text w32 v) ≡ number s n d →
    IsNearest w32 n d u → with_sign w32 s u ≡ v
unfolding w32
only32 v bound finite = only_restored w32 8 printable32 v finite bound

pub only64 : (v : ℕ) → v < 2 ^ 64 → T (not (special w64 v)) → (s : Bool) (n d u : ℕ) → exact (text w64 v) ≡ number s n d →
    IsNearest w64 n d u → with_sign w64 s u ≡ v
unfolding w64
only64 v bound finite = only_restored w64 16 printable64 v finite bound

-- The text of every pattern but NaN is read as the pattern.
pub read_back32 : (v : ℕ) → v < 2 ^ 32 → (T (special w32 v) → significand w32 v ≡ 0) → reading w32 (text w32 v) ≡ Pattern v
unfolding w32
read_back32 = read_back w32 8 printable32

pub read_back64 : (v : ℕ) → v < 2 ^ 64 → (T (special w64 v) → significand w64 v ≡ 0) → reading w64 (text w64 v) ≡ Pattern v
unfolding w64
read_back64 = read_back w64 16 printable64

-- Two different finite patterns never have the same text.
pub distinct32 : (u v : ℕ) → u < 2 ^ 32 → v < 2 ^ 32 → T (not (special w32 u)) → T (not (special w32 v)) → text w32 u ≡ text w32 v → u ≡ v
unfolding w32
distinct32 = distinct w32 8 printable32

pub distinct64 : (u v : ℕ) → u < 2 ^ 64 → v < 2 ^ 64 → T (not (special w64 u)) → T (not (special w64 v)) → text w64 u ≡ text w64 v → u ≡ v
unfolding w64
distinct64 = distinct w64 16 printable64

-- In the toolchain's account of IEEE 754: the text's fraction, rounded, is the number that the pattern stands for.
pub rounded32 : (v : ℕ) → v < 2 ^ 32 → T (not (special w32 v)) → (s : Bool) (n d : ℕ) → exact (text w32 v) ≡ number s n d →
    round binary32 s n d ≡ of_bits binary32 v
unfolding w32
rounded32 = rounded binary32 w32 8 agree32 printable32

pub rounded64 : (v : ℕ) → v < 2 ^ 64 → T (not (special w64 v)) → (s : Bool) (n d : ℕ) → exact (text w64 v) ≡ number s n d →
    round binary64 s n d ≡ of_bits binary64 v
unfolding w64
rounded64 = rounded binary64 w64 16 agree64 printable64

-- Cut at its spaces, a row gives the texts of its patterns.
pub cut_row32 : (vs : List ℕ) → cut (row w32 vs) ≡ map (text w32) vs
cut_row32 = cut-row w32 8 printable32

-- Each of them reads as its pattern, if that is finite.
pub row_restored32 : (vs : List ℕ) (i : ℕ) → i < length vs → get_or vs i 0 < 2 ^ 32 → T (not (special w32 (get_or vs i 0))) →
    ReadsAs w32 (get_or (cut (row w32 vs)) i []) (get_or vs i 0)
unfolding w32
row_restored32 = row_restored w32 8 printable32

-- Two rows of finite patterns with the same bytes are the same row.
pub same_row32 : (us vs : List ℕ) → FinitePatterns w32 us → FinitePatterns w32 vs → row w32 us ≡ row w32 vs → us ≡ vs
same_row32 = same_row w32 8 printable32
