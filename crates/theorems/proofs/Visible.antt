-- Every byte of a text is a visible character of ASCII, so none is a space or the end of a line. Assumes nothing.
use mathlib.Core.Bool.{Bool, true, ◌&&◌}
use mathlib.Core.List.{List, [], ◌∷◌, ◌++◌}
use Prim.Native.Nat.{ℕ, zero, suc, ◌+◌, ◌/◌, ◌%◌, ◌^◌, ◌<◌}
use native.Mathlib.Omega.{arith}
use lib.Dec.{T, ltb, eqb, lt→ltb}
use lib.IntN.{ℤ, pos, negsuc, nat_abs, ◌+ℤ◌, ◌-ℤ◌}
use lib.ListN.{length, take, drop}
use lib.Signed.{le_z, lt_z}
use Rattle.laws.proofs.Branches.{either, and_left, and_right, and_both}
use Rattle.rules.specs.Bytes.{bytes, byte0, letter_e, space}
use Rattle.rules.specs.Numbers.{neg, numeral, plain, count}
use Rattle.rules.specs.Width.{Width}
use Rattle.rules.specs.Pattern.{Pair, negative, significand, special, magnitude}
use Rattle.rules.specs.Digits.{decimal}
use Rattle.rules.specs.Layout.{zeros, exponent, scientific, by_rule, layout}
use Rattle.rules.specs.Text.{shown, signed, text}

-- Whether each byte of a text passes a test.
unfoldable pub each : (ℕ → Bool) → List ℕ → Bool
each p [] = true
each p (b ∷ bs) = p b && each p bs

-- One text behind another, and parts of a text.
module _ (p : ℕ → Bool) where
  pub both : (s t : List ℕ) → T (each p s) → T (each p t) → T (each p (s ++ t))
  unfolding each
  both [] t h k = k
  both (b ∷ s) t h k = and_both (p b) _ (and_left (p b) _ h) (both s t (and_right (p b) _ h) k)

  first : (n : ℕ) (t : List ℕ) → T (each p t) → T (each p (take n t))
  unfolding each
  first zero t h = tt
  first (suc n) [] h = tt
  first (suc n) (b ∷ t) h = and_both (p b) _ (and_left (p b) _ h) (first n t (and_right (p b) _ h))

  later : (n : ℕ) (t : List ℕ) → T (each p t) → T (each p (drop n t))
  unfolding each
  later zero t h = h
  later (suc n) [] h = tt
  later (suc n) (b ∷ t) h = later n t (and_right (p b) _ h)

  -- A test that the first one entails.
  pub loosely : (q : ℕ → Bool) → ((b : ℕ) → T (p b) → T (q b)) → (t : List ℕ) → T (each p t) → T (each q t)
  unfolding each
  loosely q so [] h = tt
  loosely q so (b ∷ t) h = and_both (q b) _ (so b (and_left (p b) _ h)) (loosely q so t (and_right (p b) _ h))

-- The visible characters of ASCII.
unfoldable pub visible : ℕ → Bool
visible b = ltb space b && ltb b 127

-- Digits.
digit : (d : ℕ) → d < 10 → T (visible (byte0 + d))
unfolding visible
digit d h = and_both (ltb space (byte0 + d)) _ (lt→ltb space (byte0 + d) (omega arith)) (lt→ltb (byte0 + d) 127 (omega arith))

digits : (n v : ℕ) → T (each visible (numeral n v))
unfolding each numeral
digits zero v = tt
digits (suc n) v = and_both (visible (byte0 + v / 10 ^ n % 10)) _ (digit (v / 10 ^ n % 10) (omega arith)) (digits n v)

some_zeros : (n : ℕ) → T (each visible (zeros n))
unfolding each visible zeros
some_zeros zero = tt
some_zeros (suc n) = some_zeros n

-- Exponents.
power : (e : ℤ) → T (each visible (exponent e))
unfolding each visible exponent plain
power (pos n) = digits (count n) n
power (negsuc n) = digits (count (nat_abs (negsuc n))) (nat_abs (negsuc n))

scientific-layout : (ds : List ℕ) (e : ℤ) → T (each visible ds) → T (each visible (scientific ds e))
unfolding each visible scientific
scientific-layout ds e h =
    let end : T (each visible (letter_e ∷ exponent e)) = power e in
    either (λ (t : List ℕ). T (each visible t)) (eqb (length ds) 1) (λ t. both visible ds _ h end)
    (λ t. both visible (take 1 ds) _ (first visible 1 ds h) (both visible (drop 1 ds) _ (later visible 1 ds h) end))

-- Digits laid out.
by_rule_lem : (ds : List ℕ) (k kk : ℤ) → T (each visible ds) → T (each visible (by_rule ds k kk))
unfolding each visible by_rule bytes
by_rule_lem ds k kk h =
    either (λ (t : List ℕ). T (each visible t)) (le_z (pos 0) k && le_z kk (pos 21))
    (λ t. both visible ds _ h (both visible (zeros (nat_abs k)) _ (some_zeros (nat_abs k)) tt))
    (λ t.
    either (λ (t : List ℕ). T (each visible t)) (lt_z (pos 0) kk && le_z kk (pos 21))
    (λ u. both visible (take (nat_abs kk) ds) _ (first visible (nat_abs kk) ds h) (later visible (nat_abs kk) ds h))
    (λ u.
    either (λ (t : List ℕ). T (each visible t)) (lt_z (neg 6) kk && le_z kk (pos 0))
    (λ x. both visible (zeros (nat_abs kk)) ds (some_zeros (nat_abs kk)) h)
    (λ x. scientific-layout ds (kk -ℤ pos 1) h)))

magnitude-text : (w : Width) (m : Pair) → T (each visible (shown w m))
unfolding each visible shown bytes layout
magnitude-text w m =
    let d = decimal w m in
    let ds = numeral d.len d.digits in
    either (λ (t : List ℕ). T (each visible t)) (eqb m.f 0) (λ t. tt)
    (λ t. by_rule_lem ds d.k (pos (length ds) +ℤ d.k) (digits d.len d.digits))

signed-text : (w : Width) (v : ℕ) (t : List ℕ) → T (each visible t) → T (each visible (signed w v t))
unfolding each visible signed
signed-text w v t h = either (λ (t : List ℕ). T (each visible t)) (negative w v) (λ n. h) (λ n. h)

-- The text of every pattern.
pub text_visible : (w : Width) (v : ℕ) → T (each visible (text w v))
unfolding each visible text bytes
text_visible w v =
    either (λ (t : List ℕ). T (each visible t)) (special w v)
    (λ t. either (λ (t : List ℕ). T (each visible t)) (eqb (significand w v) 0) (λ z. signed-text w v (bytes "inf") tt) (λ z. tt))
    (λ t. signed-text w v (shown w (magnitude w v)) (magnitude-text w (magnitude w v)))
