-- What is printed reads back: the text of a finite pattern lies strictly between the pattern's midpoints, reads as the pattern and as no other,
-- and no two finite patterns of a width share a text. Assumes nothing.
use mathlib.Core.Bool.{Bool, not}
use mathlib.Core.List.{List}
use mathlib.Core.Logic.{◌⊎◌, inl, inr, ⊎_elim}
use mathlib.Core.Path.{◌≡◌, refl, sym, ap, ap₂, ◌∙◌}
use Prim.Native.Nat.{ℕ, zero, suc, ◌+◌, ◌-◌, ◌*◌, ◌/◌, ◌^◌, ◌≤◌, ◌<◌}
use native.Mathlib.Nat.{mod-lt, lt_of_mul-lt-mul_right, mul-lt-mul_of_pos_right, mul-le-mul_right, eq-or-lt_of_le}
use native.Mathlib.Omega.{arith}
use lib.Dec.{T, eqb, eqb→eq, T_not}
use lib.Ieee.{Format, round, of_bits, to_bits}
use lib.Ieee.Bits.{of_bits-to_bits}
use lib.Ieee.Fits.{eq→eqb, round-fits}
use lib.IntN.{nat_abs, sub_ℕ}
use lib.Pow.{pow_pos}
use Rattle.laws.proofs.Branches.{either, which}
use Rattle.laws.proofs.Differences as difference
use Rattle.laws.proofs.Powers.{ten_pos}
use Rattle.rules.specs.Bytes.{bytes}
use Rattle.rules.specs.Numbers.{numeral}
use Rattle.rules.specs.Width.{Width, off}
use Rattle.rules.specs.Pattern.{Pair, negative, biased, all_ones, special, magnitude}
use Rattle.rules.specs.Digits.{decimal}
use Rattle.rules.specs.Layout.{layout}
use Rattle.rules.specs.Text.{shown, signed, text}
use Rattle.rules.specs.Reading.{number, exact, over, is_digit, extended, decimals_more, decimals_first, whole_more, unsigned, infinity, top, IsNearest, unbounded, nearest, with_sign, ReadsAs}
use Rattle.rules.specs.Midpoints.{midpoint_below, midpoint_above, Between}
use Rattle.theorems.proofs.Boundaries.{Finite}
use Rattle.theorems.proofs.Scale.{finite}
use Rattle.theorems.proofs.Printable.{Printable}
use Rattle.theorems.proofs.Decimal.{printed}
use Rattle.theorems.proofs.LayoutReads.{Says, layout_says}
use Rattle.theorems.proofs.Units.{units_of, units_rise}
use Rattle.theorems.proofs.Worth.{bare, at, bare_zero, no_sign, off_units, worth_bare, significand_small}
use Rattle.theorems.proofs.Signs.{rejoined}
use Rattle.theorems.proofs.Nearest.{only_nearest}
use Rattle.theorems.proofs.Midpoints.{between_midpoints, below-first, up_to_top}
use Rattle.theorems.proofs.Neighbours.{bare_next, bare_last, above_midpoint, below_midpoint}
use Rattle.theorems.proofs.Decoding.{Agree}
use Rattle.theorems.proofs.Ieee.{round_bits}
use Rattle.theorems.proofs.ExactText.{signed_says}

-- The text of the pattern v, read exactly, has the pattern's sign and lies strictly between its midpoints.
pub record Inside (w : Width) (v : ℕ) : Type 0 where
  pub n : ℕ
  pub d : ℕ
  pub says : exact (text w v) ≡ number (negative w v) n d
  pub positive : 0 < d
  pub between : Between w v n d

-- A decimal g * 10^up / 10^down that equals n / d, against a boundary u, all over a = 2^off.
cross_under : (n d g U C a u : ℕ) → 0 < C → 0 < d → n * C ≡ g * U * d → g * U * a < u * C → n * a < u * d
cross_under n d g U C a u c-some d-some equal less =
    lt_of_mul-lt-mul_right C (omega (arith, mul-lt-mul_of_pos_right less d-some, ap (λ (z : ℕ). z * a) equal))

cross_over : (n d g U C a u : ℕ) → 0 < C → 0 < d → n * C ≡ g * U * d → u * C < g * U * a → u * d < n * a
cross_over n d g U C a u c-some d-some equal less =
    lt_of_mul-lt-mul_right C (omega (arith, mul-lt-mul_of_pos_right less d-some, ap (λ (z : ℕ). z * a) equal))

-- The text of a finite pattern is its sign and the text of its magnitude, and that of a magnitude other than zero its layout.
pub finite_text : (w : Width) (v : ℕ) → T (not (special w v)) → text w v ≡ signed w v (shown w (magnitude w v))
unfolding text
finite_text w v ordinary =
    either (λ (t : List ℕ). t ≡ signed w v (shown w (magnitude w v))) (special w v) (λ s. absurd (T_not (special w v) ordinary s)) (λ s. refl)

pub laid_text : (w : Width) (m : Pair) → 0 < m.f → shown w m ≡ layout (numeral (decimal w m).len (decimal w m).digits) (decimal w m).k
unfolding shown
laid_text w m some =
    either (λ (t : List ℕ). t ≡ layout (numeral (decimal w m).len (decimal w m).digits) (decimal w m).k) (eqb m.f 0)
    (λ z. absurd (omega (arith, eqb→eq m.f 0 z))) (λ z. refl)

module _ (w : Width) (q : ℕ) (p : Printable w q) where
  -- What a finite magnitude's digits say.
  magnitude_says : (m : Pair) (h : Finite w m) →
      Says (layout (numeral (decimal w m).len (decimal w m).digits) (decimal w m).k) (decimal w m).digits (printed w q p m h).up (printed w q p m h).down
  magnitude_says m h =
      let d = printed w q p m h in
      rw d.k_is
      (by_length (decimal w m).len (decimal w m).digits d.up d.down d.some (omega (arith, d.few, p.few)) d.fits
      (near d.up d.down (rw d.k_is at d.near)) (omega (arith, d.kk_least)))
    where
      near : (up down : ℕ) → nat_abs (sub_ℕ up down) < 900 → up ≤ down + 9000
      near up down = difference.cases (λ z. nat_abs z < 900 → up ≤ down + 9000) up down (λ l h. omega arith) (λ l h. omega arith)

      by_length : (len digits up down : ℕ) → 0 < len → len ≤ 21 → digits < 10 ^ len → up ≤ down + 9000 → down ≤ up + len + 324 →
          Says (layout (numeral len digits) (sub_ℕ up down)) digits up down
      by_length zero digits up down some short fits most least = absurd (omega arith)
      by_length (suc l) digits up down some short fits most least = layout_says l digits up down fits short most least

  module _ (v : ℕ) (ordinary : T (not (special w v))) where
    -- Without its sign a finite pattern is below the infinity.
    pub bare_finite : bare w v < infinity w
    unfolding bare infinity special all_ones biased
    bare_finite =
        let field : biased w v < 2 ^ (w.bits - 1 - w.S) = mod-lt (v / 2 ^ w.S) (pow_pos (w.bits - 1 - w.S)) in
        let less : suc (biased w v) ≤ all_ones w = below_ones (biased w v) (all_ones w) (omega arith) ordinary in
        omega (arith, significand_small w v, mul-le-mul_right (2 ^ w.S) less)
      where
        below_ones : (b c : ℕ) → b ≤ c → T (not (eqb b c)) → b < c
        below_ones b c most differ = ⊎_elim (λ e. absurd (T_not (eqb b c) differ (eq→eqb e))) (λ l. l) (eq-or-lt_of_le most)

    room-above : bare w v < 2 ^ (w.bits - 1) - 1
    room-above = omega (arith, no_sign w p.readable (suc (bare w v)) bare_finite)

    -- The printed text of a finite pattern that is not zero lies strictly between the pattern's midpoints.
    pub inside : 0 < (magnitude w v).f → Inside w v
    inside some =
        let m = magnitude w v in
        let h = finite w v p.sound.finite ordinary some in
        let d = printed w q p m h in
        let s = magnitude_says m h in
        let n-some : 0 < w.N = omega (arith, p.sound.wide) in
        let over = cross_over s.n s.d (decimal w m).digits (10 ^ d.up) (10 ^ d.down) (2 ^ off w) _ (ten_pos d.down) s.positive s.equal d.over_lower in
        let under = cross_under s.n s.d (decimal w m).digits (10 ^ d.up) (10 ^ d.down) (2 ^ off w) _ (ten_pos d.down) s.positive s.equal d.under-upper in
        record {
          n = s.n;
          d = s.d;
          says = ap exact (finite_text w v ordinary ∙ ap (signed w v) (laid_text w m some)) ∙ signed_says w v _ s.is;
          positive = s.positive;
          between =
              record {
                above = omega (arith, mul-le-mul_right s.d (below_midpoint w p.readable v n-some some));
                under = omega (arith, ap (λ (z : ℕ). z * s.d) (above_midpoint w p.readable v n-some room-above));
              };
        }

    -- The same in units.
    in_units : (n d : ℕ) → 0 < d → 0 < (magnitude w v).f → Between w v n d → unbounded w n d ≡ bare w v
    unfolding midpoint_below midpoint_above
    in_units n d positive some between =
        let r = p.readable in
        let a = at w v in
        let C = 2 ^ (w.N + 1) in
        let u = bare w v in
        let above : 0 < u = omega (arith, a.spot.is, a.f_is) in
        let here = worth_bare w v in
        let last = worth_bare w (v - 1) ∙ ap (λ (x : ℕ). units_of w.S x * C) (bare_last w r v above) in
        let next = worth_bare w (suc v) ∙ ap (λ (x : ℕ). units_of w.S x * C) (bare_next w r v room-above) in
        let over = rw (here, last, off_units w r) at between.above in
        let under = rw (here, next, off_units w r) at between.under in
        between_midpoints w r n d positive u above (lt_of_mul-lt-mul_right C (omega (arith, over))) (lt_of_mul-lt-mul_right C (omega (arith, under)))

    -- A finite pattern's text and what it reads as, before the top rule and the sign.
    record Read : Type 0 where
      n : ℕ
      d : ℕ
      says : exact (text w v) ≡ number (negative w v) n d
      positive : 0 < d
      reads : unbounded w n d ≡ bare w v

    zero_says : unsigned (bytes "0.0") ≡ over 0 10
    unfolding bytes unsigned is_digit extended whole_more decimals_first decimals_more
    zero_says = refl

    zero_text : (magnitude w v).f ≡ 0 → shown w (magnitude w v) ≡ bytes "0.0"
    unfolding shown
    zero_text none = either (λ (t : List ℕ). t ≡ bytes "0.0") (eqb (magnitude w v).f 0) (λ z. refl) (λ z. absurd (T_not (eqb (magnitude w v).f 0) z (eq→eqb none)))

    read : Read
    read = by_magnitude (which 0 (magnitude w v).f)
      where
        by_magnitude : (0 < (magnitude w v).f) ⊎ ((magnitude w v).f ≤ 0) → Read
        by_magnitude (inl some) =
            let i = inside some in
            record { n = i.n; d = i.d; says = i.says; positive = i.positive; reads = in_units i.n i.d i.positive some i.between }
        by_magnitude (inr none) =
            let zero_is : (magnitude w v).f ≡ 0 = omega arith in
            record {
              n = 0;
              d = 10;
              says = ap exact (finite_text w v ordinary ∙ ap (signed w v) (zero_text zero_is)) ∙ signed_says w v (bytes "0.0") zero_says;
              positive = omega arith;
              reads = below-first w p.readable 0 10 (omega arith) (omega (arith, units_rise w.S 0)) ∙ sym (bare_zero w v zero_is);
            }

    top_holds : bare w v ≤ top w
    unfolding top
    top_holds = omega (arith, bare_finite)

    -- The printed text of every finite pattern, both zeros too, reads as the pattern.
    pub restored : v < 2 ^ w.bits → ReadsAs w (text w v) v
    restored bound =
        let r = read in
        record {
          sign = negative w v;
          n = r.n;
          d = r.d;
          says = r.says;
          positive = r.positive;
          pattern = sym (ap (with_sign w (negative w v)) (up_to_top w r.n r.d (bare w v) r.reads top_holds) ∙ rejoined w p.readable v bound);
        }

    -- However the text reads, no other pattern is nearest to it.
    pub only_restored : v < 2 ^ w.bits → (s : Bool) (n d u : ℕ) → exact (text w v) ≡ number s n d → IsNearest w n d u → with_sign w s u ≡ v
    only_restored bound s n d u says near =
        let r = read in
        let same : number s n d ≡ number (negative w v) r.n r.d = sym says ∙ r.says in
        let same-n : n ≡ r.n = cc in
        let same-d : d ≡ r.d = cc in
        let same_s : s ≡ negative w v = cc in
        let is : u ≡ nearest w n d = only_nearest w p.readable n d u (rw same-d r.positive) near in
        ap₂ (with_sign w) same_s (is ∙ ap₂ (nearest w) same-n same-d ∙ up_to_top w r.n r.d (bare w v) r.reads top_holds)
        ∙ rejoined w p.readable v bound

-- The same in the toolchain's own account of IEEE 754: the text's fraction, rounded, is the number that the pattern stands for.
pub rounded : (f : Format) (w : Width) (q : ℕ) → Agree f w → Printable w q → (v : ℕ) → v < 2 ^ w.bits → T (not (special w v)) →
    (s : Bool) (n d : ℕ) → exact (text w v) ≡ number s n d → round f s n d ≡ of_bits f v
rounded f w q g p v bound ordinary s n d says =
    let r = read w q p v ordinary in
    let same : number s n d ≡ number (negative w v) r.n r.d = sym says ∙ r.says in
    let same-n : n ≡ r.n = cc in
    let same-d : d ≡ r.d = cc in
    let same_s : s ≡ negative w v = cc in
    let reads : unbounded w n d ≡ bare w v = ap₂ (unbounded w) same-n same-d ∙ r.reads in
    let bits : to_bits f (round f s n d) ≡ v =
    round_bits f w g s n d
    ∙ ap₂ (with_sign w) same_s (up_to_top w n d (bare w v) reads (top_holds w q p v ordinary))
    ∙ rejoined w p.readable v bound in
    sym (of_bits-to_bits f (round f s n d) (round-fits f s n d)) ∙ ap (of_bits f) bits

-- Two finite patterns of a width with the same text are the same.
pub distinct : (w : Width) (q : ℕ) → Printable w q → (u v : ℕ) → u < 2 ^ w.bits → v < 2 ^ w.bits → T (not (special w u)) → T (not (special w v)) →
    text w u ≡ text w v → u ≡ v
distinct w q p u v hu hv fu fv same =
    let a = restored w q p u fu hu in
    let b = restored w q p v fv hv in
    let says : number a.sign a.n a.d ≡ number b.sign b.n b.d = sym a.says ∙ ap exact same ∙ b.says in
    cc (a.pattern, b.pattern)
