-- What is kept of a number that grows by digits. Assumes nothing.
use Rattle.std.proofs.Common.{◌≡◌, ℕ, zero, suc, ◌+◌, ◌-◌, ◌*◌, ◌^◌, ◌<◌, ◌≤◌, Bool, true, false, not, ◌||◌, eqb, ◌⊎◌, inl, inr, sym, refl, ap, ◌∙◌, ⊎_elim, true≢false, mul-le-mul_right, mul-le-mul_left, add-one, arith, lit<, pow-add}
use native.Mathlib.Nat.{pow-succ', pow-le-pow_right}
use Rattle.std.proofs.lemmas.Bool.Decides.{nat_tests}
use Rattle.laws.proofs.Powers.{ten_pos}
use Rattle.scan.specs.Kept.{Kept}

-- Of no digits, nothing.
pub nothing : Kept 0 0 0 false
nothing =
    record {
      low = omega arith;
      high = omega arith;
      whole = λ e. refl;
      above = λ e. absurd (true≢false (sym e));
      small = lit< tt;
      full = λ h. absurd (omega arith);
    }

module _ {a w d : ℕ} {more : Bool} (k : Kept a w d more) where
  -- Nothing is dropped as long as there is room.
  pub none_dropped : w < 10 ^ 18 → d ≡ 0
  none_dropped room = at d k.full
    where
      at : (n : ℕ) → (0 < n → 10 ^ 18 ≤ w) → n ≡ 0
      at zero full = refl
      at (suc n) full = absurd (omega (arith, full (omega arith)))

  -- Then the number is kept whole.
  pub is_whole : w < 10 ^ 18 → a ≡ w
  is_whole room =
      let one : 10 ^ d ≡ 1 = ap (λ (n : ℕ). 10 ^ n) (none_dropped room) in
      omega (arith, rw one at k.low, rw one at k.high)

  -- More digits are kept where there is room for them; p is their power of ten.
  pub longer : (p x : ℕ) → w < 10 ^ 18 → w * p + x < 10 ^ 19 → Kept (a * p + x) (w * p + x) d more
  longer p x room fits =
      let none = none_dropped room in
      let all = is_whole room in
      let one : 10 ^ d ≡ 1 = ap (λ (n : ℕ). 10 ^ n) none in
      rw (all, none)
      (record {
        low = omega arith;
        high = omega arith;
        whole = λ e. omega arith;
        above = λ e. absurd (omega (arith, rw one at (k.above e)));
        small = fits;
        full = λ g. absurd (omega arith);
      })

  -- A digit for which there is no room is dropped.
  pub dropped : (x : ℕ) → x < 10 → 10 ^ 18 ≤ w → (m : Bool) → (m ≡ false → (more ≡ false) × (x ≡ 0)) →
      (m ≡ true → (more ≡ true) ⊎ (0 < x)) → Kept (a * 10 + x) w (d + 1) m
  dropped x digit full m none some =
      let ten : 10 ^ (d + 1) ≡ 10 * 10 ^ d = rw (add-one d) (pow-succ' 10 d) in
      let power : w * 10 ^ (d + 1) ≡ w * (10 * 10 ^ d) = rw ten in
      let low : w * 10 ^ d ≤ a = k.low in
      let high : suc a ≤ (w + 1) * 10 ^ d = k.high in
      record {
        low = omega arith;
        high = rw ten (omega arith);
        whole = λ e. omega (arith, k.whole (none e).0, (none e).1);
        above = λ e. ⊎_elim (λ m. omega (arith, k.above m)) (λ p. omega arith) (some e);
        small = k.small;
        full = λ g. full;
      }

-- Whether a digit is left off that is not 0, where one was before or this is one.
pub or_false : (m : Bool) (x : ℕ) → (m || not (eqb x 0)) ≡ false → (m ≡ false) × (x ≡ 0)
or_false true x e = absurd (true≢false e)
or_false false x e = (refl, grind (arith, nat_tests))

pub or_true : (m : Bool) (x : ℕ) → (m || not (eqb x 0)) ≡ true → (m ≡ true) ⊎ (0 < x)
or_true true x e = inl refl
or_true false x e = inr (grind (arith, nat_tests))

-- n digits more fit behind a number that is n digits short of eighteen.
pub room : (w n v : ℕ) → n ≤ 18 → w < 10 ^ (18 - n) → v < 10 ^ 8 → (w < 10 ^ 18) × (w * 10 ^ n + v < 10 ^ 19)
room w n v few short small =
    let all : 10 ^ (18 - n) * 10 ^ n ≡ 10 ^ 18 = sym (pow-add 10 (18 - n) n) ∙ ap (λ (m : ℕ). 10 ^ m) (together n few) in
    let most : (w + 1) * 10 ^ n ≤ 10 ^ (18 - n) * 10 ^ n = mul-le-mul_right (10 ^ n) (omega arith) in
    let least : w * 1 ≤ w * 10 ^ n = mul-le-mul_left w (ten_pos n) in
    (omega (arith, all, most, least, ten_pos n), omega (arith, all, most))
  where
    together : (n : ℕ) → n ≤ 18 → 18 - n + n ≡ 18
    together n few = omega arith

-- Fewer than eighteen digits and one more are kept.
pub another : (w n x : ℕ) → n < 18 → w < 10 ^ n → x < 10 → (w * 10 + x < 10 ^ (n + 1)) × (w * 10 + x < 10 ^ 18)
another w n x few short digit =
    let ten : 10 ^ (n + 1) ≡ 10 * 10 ^ n = rw (add-one n) (pow-succ' 10 n) in
    let no_more : n + 1 ≤ 18 = omega arith in
    let most : 10 ^ (n + 1) ≤ 10 ^ 18 = pow-le-pow_right (lit< tt) no_more in
    (rw ten (omega arith), omega (arith, ten, most))
