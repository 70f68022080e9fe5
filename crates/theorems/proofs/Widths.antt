-- What the laws ask of a width, numbers alone, and that binary16, binary32 and binary64 have it. Assumes nothing.
use mathlib.Core.Path.{◌≡◌}
use Prim.Native.Nat.{ℕ, ◌+◌, ◌-◌, ◌*◌, ◌^◌, ◌≤◌, ◌<◌}
use native.Mathlib.Omega.{arith}
use lib.Dec.{T}
use lib.ListN.{length}
use Rattle.laws.proofs.Powers.{two_halves}
use Rattle.laws.proofs.Tests.{Test, le, lt, ◌and◌, Holds, run, says}
use Rattle.rules.specs.Tables.{raised, significands32, exponents32, significands64}
use Rattle.rules.specs.Width.{Width, w32, w64, off}
use Rattle.rules.specs.Pattern.{all_ones}
use Rattle.rules.proofs.Table.{Entry, numerator, denominator, entries, table32, table64}

-- A width whose magnitudes print with at most q + 1 digits.
pub record Sound (w : Width) (q : ℕ) : Type 0 where
  -- a product's dropped part is shorter than N
  pub dropped : w.dropped < w.N
  -- a pair has room for a boundary shifted left by seven
  pub deep : w.S + 9 ≤ w.N
  -- nine decimal digits fit
  pub wide : 30 ≤ w.N
  -- some biased exponent other than 0 is finite
  pub finite : 2 ≤ all_ones w
  -- q digits are no coarser than the magnitudes: where these are densest, and at a power of two, where the lower side is narrow
  pub normal : 16 * 2 ^ (w.S + 2) ≤ 31 * 10 ^ q
  pub narrow : 2 * 2 ^ w.S + 1 ≤ 10 ^ q
  -- the search for j begins below the largest exponent's, and ends inside the table at the smallest's
  pub tens : 1 ≤ w.tens
  pub first : 2 ^ (all_ones w + w.S + w.N) < 10 ^ (w.tens + 7) * 2 ^ (off w + 3)
  pub last : 10 ^ (w.tens + 7) * 2 ^ (off w + 3) ≤ 10 ^ (8 * length w.significands - 1) * 2 ^ w.N
  pub fuel : 8 * length w.significands - 1 ≤ 3 * w.tens
  -- the table's rule
  pub entry : (i : ℕ) → i < length w.significands → Entry w i

-- A number of N bits is below twice its highest bit.
pub top_bit : {w : Width} {q : ℕ} → Sound w q → 2 ^ w.N ≡ 2 * 2 ^ (w.N - 1)
top_bit {w} s = two_halves w.N (omega (arith, s.wide))

-- Its numbers as a test that computes.
abbrev pub test : Width → ℕ → Test
test w q =
    lt w.dropped w.N
    and le (w.S + 9) w.N
    and le 30 w.N
    and le 2 (all_ones w)
    and le (16 * 2 ^ (w.S + 2)) (31 * 10 ^ q)
    and le (2 * 2 ^ w.S + 1) (10 ^ q)
    and le 1 w.tens
    and lt (2 ^ (all_ones w + w.S + w.N)) (10 ^ (w.tens + 7) * 2 ^ (off w + 3))
    and le (10 ^ (w.tens + 7) * 2 ^ (off w + 3)) (10 ^ (8 * length w.significands - 1) * 2 ^ w.N)
    and le (8 * length w.significands - 1) (3 * w.tens)

-- Where the test passes and the table is as asked, the width is sound.
pub sound : (w : Width) (q : ℕ) → T (run (test w q)) → ((i : ℕ) → i < length w.significands → Entry w i) → Sound w q
sound w q t entry = told (says (test w q) t)
  where
    told : Holds (test w q) → Sound w q
    told (a, (b, (c, (d, (e, (f, (g, (h, (i, j))))))))) =
        record {
          dropped = a;
          deep = b;
          wide = c;
          finite = d;
          normal = e;
          narrow = f;
          tens = g;
          first = h;
          last = i;
          fuel = j;
          entry = entry;
        }

-- Binary32, with at most 9 digits.
pub sound32 : Sound w32 8
unfolding w32 off all_ones significands32
sound32 = sound w32 8 tt table32

-- Binary64, with at most 17 digits.
pub sound64 : Sound w64 16
unfolding w64 off all_ones significands64
sound64 = sound w64 16 tt table64

-- Binary16, in pairs of 32 bits and with their table.
unfoldable pub w16 : Width
w16 =
    record {
      bits = 16;
      N = 32;
      S = 10;
      bias = 15;
      dropped = 0;
      tens = 36;
      twos = 151;
      significands = significands32;
      exponents = raised 151 exponents32;
    }

-- Binary16, with at most 5 digits.
pub sound16 : Sound w16 4
unfolding w16 off all_ones numerator denominator raised significands32 exponents32
sound16 = sound w16 4 tt (entries w16 12 tt)
