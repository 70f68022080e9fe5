-- How many bytes a layout has: from 3 to 24, and more than it has digits. Assumes nothing.
use mathlib.Core.List.{List}
use mathlib.Core.Path.{◌≡◌, refl, ap, ◌∙◌}
use Prim.Native.Nat.{ℕ, suc, ◌+◌, ◌-◌, ◌^◌, ◌≤◌, ◌<◌}
use native.Mathlib.Omega.{arith}
use lib.Dec.{eqb}
use lib.IntN.{ℤ, pos, negsuc, nat_abs}
use lib.ListN.{length, length-append, length-take, length-drop}
use Rattle.laws.proofs.Branches.{either}
use Rattle.laws.proofs.Differences as difference
use Rattle.rules.specs.Bytes.{bytes}
use Rattle.rules.specs.Layout.{exponent, scientific, layout}
use Rattle.theorems.proofs.Counting.{count_least, count_pos, length-plain}
use Rattle.theorems.proofs.LaidOut.{Laid, whole, inner, small, large, minute, laid}
use Rattle.theorems.proofs.LayoutReads.{length-zeros}

-- An exponent below 10^4 has up to 4 bytes, and below zero up to 3 digits and a sign.
exponent-bytes : (x : ℕ) → x < 10 ^ 4 → (1 ≤ length (exponent (pos x))) × (length (exponent (pos x)) ≤ 4)
unfolding exponent
exponent-bytes x h = (omega (arith, length-plain x, count_pos x), omega (arith, length-plain x, count_least x 3 h))

minus-bytes : (x : ℕ) → suc x < 10 ^ 3 → (1 ≤ length (exponent (negsuc x))) × (length (exponent (negsuc x)) ≤ 4)
unfolding exponent
minus-bytes x h = (omega arith, omega (arith, length-plain (suc x), count_least (suc x) 2 h))

-- A scientific layout has a byte for each digit, one for `e`, those of the exponent, and perhaps a point.
scientific-bytes : (ds : List ℕ) (e : ℤ) → 0 < length ds →
    (length ds + 1 + length (exponent e) ≤ length (scientific ds e)) × (length (scientific ds e) ≤ length ds + 2 + length (exponent e))
unfolding scientific
scientific-bytes ds e some =
    either
    (λ (t : List ℕ). (length ds + 1 + length (exponent e) ≤ length t) × (length t ≤ length ds + 2 + length (exponent e)))
    (eqb (length ds) 1)
    (λ t. (simp length-append (omega arith), simp length-append (omega arith)))
    (λ t. (simp (length-append, length-take, length-drop) (omega arith), simp (length-append, length-take, length-drop) (omega arith)))

two : length (bytes ".0") ≡ 2
unfolding bytes
two = refl

-- A text t that digits ds were laid out as.
pub record Spans (ds t : List ℕ) : Type 0 where
  pub least : 3 ≤ length t
  pub most : length t ≤ 24
  -- it is longer than the digits
  pub covers : length ds < length t

-- The layout of 1 to 17 digits.
pub layout-length : (ds : List ℕ) (k : ℤ) → 0 < length ds → length ds ≤ 17 → nat_abs k < 1000 → Spans ds (layout ds k)
layout-length ds k some short near = by_rule_lem (laid ds k some (omega arith))
  where
    spans : {t : List ℕ} (n : ℕ) → length t ≡ n → 3 ≤ n → n ≤ 24 → length ds < n → Spans ds t
    spans n is least most more = record { least = omega arith; most = omega arith; covers = omega arith }

    by_rule_lem : {t : List ℕ} → Laid ds k t → Spans ds t
    by_rule_lem (whole n e fits is) =
        spans (length ds + (n + 2)) (ap length is ∙ simp (length-append, length-zeros, two) refl) (omega arith) (omega arith) (omega arith)
    by_rule_lem (inner p r e behind sum before few is) =
        spans (length ds + 1) (ap length is ∙ simp (length-append, length-take, length-drop) (omega arith))
        (omega arith) (omega arith) (omega arith)
    by_rule_lem (small z e few is) =
        spans (2 + (z + length ds)) (ap length is ∙ simp (length-append, length-zeros) (omega arith))
        (omega arith) (omega arith) (omega arith)
    by_rule_lem (large n e far is) =
        let b = exponent-bytes (length ds + n - 1) (omega (arith, ap nat_abs e)) in
        let s = scientific-bytes ds (pos (length ds + n - 1)) some in
        spans _ (ap length is) (omega arith) (omega arith) (omega arith)
    by_rule_lem (minute z e far is) =
        let b = minus-bytes z (omega (arith, ap nat_abs e, difference.size_minus (z + length ds))) in
        let s = scientific-bytes ds (negsuc z) some in
        spans _ (ap length is) (omega arith) (omega arith) (omega arith)
