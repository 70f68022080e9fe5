-- The rule of the tables: every entry lies within half a unit of the power that it stands for, and fills its N bits. Assumes nothing.
use Prim.Native.Nat.{ℕ, ◌+◌, ◌-◌, ◌*◌, ◌^◌, ◌≤◌, ◌<◌}
use lib.Dec.{T}
use lib.ListN.{get_or}
use Rattle.laws.proofs.Tests.{Test, le, lt, ◌and◌, Holds, up_to, every}
use Rattle.rules.specs.Tables.{raised, significands32, exponents32, significands64, exponents64}
use Rattle.rules.specs.Width.{Width, w32, w64}

-- The number c lies within half a unit of num / den.
pub record HalfUnit (c num den : ℕ) : Type 0 where
  pub above : 2 * c * den ≤ 2 * num + den
  pub under : 2 * num ≤ 2 * c * den + den

-- Entry i stands for 10^P / 2^(its exponent). With both exponents raised, that is 10^(8 * i) * 2^twos ..
unfoldable pub numerator : Width → ℕ → ℕ
numerator w i = 10 ^ (8 * i) * 2 ^ w.twos

-- .. over 10^tens * 2^(the kept exponent).
unfoldable pub denominator : Width → ℕ → ℕ
denominator w i = 10 ^ w.tens * 2 ^ get_or w.exponents i 0

-- What is asked of entry i: half a unit, bit N - 1 set, and no bit above it.
pub record Entry (w : Width) (i : ℕ) : Type 0 where
  pub half : HalfUnit (get_or w.significands i 0) (numerator w i) (denominator w i)
  pub top : 2 ^ (w.N - 1) ≤ get_or w.significands i 0
  pub fits : get_or w.significands i 0 < 2 ^ w.N

-- The same as a test that computes.
abbrev pub test : Width → ℕ → Test
test w i =
    let c = get_or w.significands i 0 in
    le (2 * c * denominator w i) (2 * numerator w i + denominator w i)
    and le (2 * numerator w i) (2 * c * denominator w i + denominator w i)
    and le (2 ^ (w.N - 1)) c
    and lt c (2 ^ w.N)

-- Where the test passes at every index below n, every such entry is as asked.
pub entries : (w : Width) (n : ℕ) → T (up_to (test w) n) → (i : ℕ) → i < n → Entry w i
entries w n t i h = told (every (test w) n t i h)
  where
    told : Holds (test w i) → Entry w i
    told (a, (u, (l, f))) = record { half = record { above = a; under = u }; top = l; fits = f }

-- The 12 entries of 32 bits.
pub table32 : (i : ℕ) → i < 12 → Entry w32 i
unfolding numerator denominator w32 raised significands32 exponents32
table32 = entries w32 12 tt

-- The 87 entries of 64 bits.
pub table64 : (i : ℕ) → i < 87 → Entry w64 i
unfolding numerator denominator w64 raised significands64 exponents64
table64 = entries w64 87 tt
