-- A numeral, put digit by digit into a buffer. Assumes nothing.
use mathlib.Core.Path.{◌≡◌, sym, ap, ◌∙◌}
use mathlib.Core.List.{List, [], ◌∷◌, ◌++◌}
use Prim.Native.Nat.{ℕ, zero, suc, ◌+◌, ◌-◌, ◌/◌, ◌%◌, ◌^◌, ◌≤◌, ◌<◌}
use native.Mathlib.Nat.{div-div-eq-div-mul, div-one, mod-eq_of_lt, pow-succ'}
use native.Mathlib.Omega.{arith}
use lib.ListN.{get_or, set, take-append-drop}
use Rattle.laws.specs.Puts.{Puts}
use Rattle.laws.proofs.Puts.{then, last_is, last_changed}
use Rattle.rules.specs.Bytes.{byte0}
use Rattle.rules.specs.Numbers.{count, numeral, plain}
use Rattle.theorems.proofs.Counting.{length-numeral}
use Rattle.theorems.proofs.Runs.{take-numeral, drop-numeral}

-- A numeral is that of the number without its last digit, and the last digit.
numeral_more : (i v : ℕ) → numeral (suc i) v ≡ numeral i (v / 10) ++ ((byte0 + v % 10) ∷ [])
unfolding numeral
numeral_more zero v = rw (div-one v)
numeral_more (suc i) v = rw (pow-succ' 10 i, ← div-div-eq-div-mul v 10 (10 ^ i)) (ap (λ (ys : List ℕ). (byte0 + v / 10 / 10 ^ i % 10) ∷ ys) (numeral_more i v))

-- One digit more, behind the others.
pub one_more : {out mid last : List ℕ} {at m next : ℕ} (i u v d : ℕ) → u ≡ v / 10 → d ≡ v % 10 →
    Puts (numeral i u) out at mid m → Puts ((byte0 + d) ∷ []) mid m last next → Puts (numeral (suc i) v) out at last next
one_more i u v d front end p q = rw (numeral_more i v, ← front, ← end) (then p q)

-- The first digit.
pub first-digit : {out last : List ℕ} {at next : ℕ} (d : ℕ) → d < 10 → Puts ((byte0 + d) ∷ []) out at last next → Puts (numeral 1 d) out at last next
unfolding numeral
first-digit d less q = rw (div-one d, mod-eq_of_lt less) q

-- A number's text is the numeral of its count.
pub plainly : {out last : List ℕ} {at next : ℕ} (n c : ℕ) → count n ≡ c → Puts (numeral c n) out at last next → Puts (plain n) out at last next
unfolding plain
plainly n c is p = rw is p

-- Two numerals, of the first digits and of the last, make one.
pub numeral_joined : (i n v : ℕ) → numeral (i + n) v ≡ numeral i (v / 10 ^ n) ++ numeral n v
numeral_joined i n v = sym (take-append-drop i (numeral (i + n) v)) ∙ rw (take-numeral i n v, drop-numeral i n v)

module _ {out last : List ℕ} {next : ℕ} (m v : ℕ) (p : Puts (numeral (suc m) v) out 0 last next) where
  parted : Puts (numeral m (v / 10) ++ ((byte0 + v % 10) ∷ [])) out 0 last next
  parted = rw (← numeral_more m v) p

  -- The byte of the last digit.
  pub last_digit : get_or last m 0 ≡ byte0 + v % 10
  last_digit = last_is (numeral m (v / 10)) _ m (length-numeral m (v / 10)) parted 0

  -- The last digit, lowered.
  pub lowered : (n : ℕ) → n ≤ v % 10 → Puts (numeral (suc m) (v - n)) out 0 (set last m (get_or last m 0 - n)) next
  lowered n most =
      let front : (v - n) / 10 ≡ v / 10 = omega arith in
      let byte : get_or last m 0 - n ≡ byte0 + (v - n) % 10 = omega (arith, last_digit) in
      rw (numeral_more m (v - n), front, byte) (last_changed (numeral m (v / 10)) _ m (length-numeral m (v / 10)) parted _)
