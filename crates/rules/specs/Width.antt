-- What tells one width of floating-point numbers from another, and the two widths that are printed. Assumes nothing.
use Rattle.std.specs.Prelude.{ℕ, ◌+◌, List}
use Rattle.rules.specs.Tables.{raised, significands32, exponents32, significands64, exponents64}

pub record Width : Type 0 where
  -- how many bits a pattern has
  pub bits : ℕ
  -- how many bits the significand of a pair has
  pub N : ℕ
  -- how many bits of a pattern are its significand
  pub S : ℕ
  -- what is added to an exponent in a pattern
  pub bias : ℕ
  -- how many low bits of a whole product are dropped first
  pub dropped : ℕ
  -- the table's first entry stands for 10^-tens
  pub tens : ℕ
  -- the table's exponents are kept with this added, so that none is below zero
  pub twos : ℕ
  -- the table: entry i, a significand times 2^(exponent - twos), stands for 10^(8 * i - tens)
  pub significands : List ℕ
  pub exponents : List ℕ

-- Binary32.
unfoldable pub w32 : Width
w32 =
    record {
      bits = 32;
      N = 32;
      S = 23;
      bias = 127;
      dropped = 0;
      tens = 36;
      twos = 151;
      significands = significands32;
      exponents = raised 151 exponents32;
    }

-- Binary64.
unfoldable pub w64 : Width
w64 =
    record {
      bits = 64;
      N = 64;
      S = 52;
      bias = 1023;
      dropped = 32;
      tens = 348;
      twos = 1220;
      significands = significands64;
      exponents = raised 1220 exponents64;
    }

-- A binary exponent e is kept as the natural number e + off: no exponent that occurs is below -off.
unfoldable pub off : Width → ℕ
off w = w.bias + w.S + w.N
