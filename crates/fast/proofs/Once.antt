-- A product and a quotient of two floats with exact values are the exact fraction, rounded once. Assumes nothing.
use mathlib.Core.Bool.{Bool, true, false, not, cond}
use mathlib.Core.Path.{◌≡◌, sym, ap, ap₂, ◌∙◌}
use Prim.Native.Nat.{ℕ, zero, suc, ◌+◌, ◌*◌, ◌^◌, ◌≤◌, ◌<◌}
use native.Mathlib.Nat.{mul-pos}
use native.Mathlib.Omega.{arith}
use lib.Dec.{T, ltb, eqb, eqb-suc-zero}
use lib.IntN.{pos}
use lib.Ieee as Ieee
use lib.Ieee.{Float, nan, inf, fin, Format, binary64, unlike, up, down, units, odd, round, mul, div, is_nan, of_int, in_float}
use lib.Ieee.Back.{round_whole}
use lib.Ieee.Exact.{HasValue}
use lib.Ieee.Fits.{round_is, down_pos, up_pos}
use lib.Ieee.Scale.{round_same}

-- A float that is not negative, with the value n / d.
abbrev Is : Float → ℕ → ℕ → Type 0
Is x n d = HasValue x false n d

module _ (f : Format) where
  -- a / c times b / d.
  pub product : (x y : Float) (a c b d : ℕ) → 0 < c → 0 < d → Is x a c → Is y b d → mul f x y ≡ round f false (a * b) (c * d)
  unfolding mul
  product nan y a c b d C D h k = absurd h
  product (inf s) y a c b d C D h k = absurd h
  product (fin s m e) nan a c b d C D h k = absurd k
  product (fin s m e) (inf t) a c b d C D h k = absurd k
  product (fin s m e) (fin t n g) a c b d C D h k =
      ap₂ (λ (u v : Bool). round f (unlike u v) (m * up e * (n * up g)) (down e * down g)) h.0 k.0
      ∙ round_same f false (m * up e * (n * up g)) (down e * down g) (a * b) (c * d) (mul-pos (down_pos e) (down_pos g)) (mul-pos C D)
      (omega (arith, ap₂ (λ (u v : ℕ). u * v) h.1 k.1))

  -- a / c divided by b / d, which is not zero.
  pub quotient : (x y : Float) (a c b d : ℕ) → 0 < c → 0 < d → 0 < b → Is x a c → Is y b d → div f x y ≡ round f false (a * d) (b * c)
  unfolding div
  quotient nan y a c b d C D B h k = absurd h
  quotient (inf s) y a c b d C D B h k = absurd h
  quotient (fin s m e) nan a c b d C D B h k = absurd k
  quotient (fin s m e) (inf t) a c b d C D B h k = absurd k
  quotient (fin s m e) (fin t zero g) a c b d C D B h k = absurd (omega (arith, k.1, mul-pos B (down_pos g)))
  quotient (fin s m e) (fin t (suc n) g) a c b d C D B h k =
      let whole = m * up e * down g in
      let parts = suc n * up g * down e in
      ap (λ (z : Bool). cond z (cond (eqb m 0) nan (inf (unlike s t))) (round f (unlike s t) whole parts)) (eqb-suc-zero n)
      ∙ ap₂ (λ (u v : Bool). round f (unlike u v) whole parts) h.0 k.0
      ∙ round_same f false whole parts (a * d) (b * c) (mul-pos (mul-pos (omega arith) (up_pos g)) (down_pos e)) (mul-pos B C)
      (omega (arith, ap₂ (λ (u v : ℕ). u * v) h.1 (sym k.1)))

-- ---- what rounding gives is a number or an infinity
odd_not_nan : (s : Bool) (p q k l : ℕ) → T (not (is_nan (odd p s q k l)))
unfolding odd is_nan
odd_not_nan s p zero k l = tt
odd_not_nan s p (suc q) k l = tt

either_not_nan : (s b : Bool) (x : Float) → T (not (is_nan x)) → T (not (is_nan (cond b x (inf s))))
unfolding is_nan
either_not_nan s true x h = h
either_not_nan s false x h = tt

units_not_nan : (f : Format) (s : Bool) (q k : ℕ) → T (not (is_nan (units f s q k)))
unfolding units
units_not_nan f s q k =
    either_not_nan s (ltb (q * 2 ^ k) (2 ^ (Ieee.low f + suc (Ieee.emax f)))) (odd (suc (Ieee.prec f)) s q k (Ieee.low f))
    (odd_not_nan s (suc (Ieee.prec f)) q k (Ieee.low f))

pub rounded_not_nan : (f : Format) (s : Bool) (n d : ℕ) → T (not (is_nan (round f s n d)))
rounded_not_nan f s n d = rw (round_is f s n d) (units_not_nan f s _ _)

-- Whole numbers up to 2^53 are floats of binary64 themselves.
pub whole : (m : ℕ) → m ≤ 2 ^ 53 → Is (of_int binary64 (pos m)) m 1
unfolding of_int
whole m h = round_whole binary64 false m h
