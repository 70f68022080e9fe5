-- The crate's layout has a cut at 324 places and a rule 4 that no finite pattern reaches: on every length and exponent of one, of any
-- printable width, it equals the layout of the rules. Assumes nothing.
use mathlib.Core.Bool.{true, false, ◌&&◌}
use mathlib.Core.List.{List, [], ◌∷◌, ◌++◌}
use mathlib.Core.Path.{◌≡◌, refl, sym, ap, ◌∙◌}
use Prim.Native.Nat.{ℕ, suc, ◌+◌, ◌-◌, ◌≤◌, ◌<◌}
use native.Mathlib.Omega.{arith}
use lib.Dec.{T, eqb, ltb, leb, ltb→lt, leb→le, le→leb}
use lib.IntN.{ℤ, pos, negsuc, nat_abs, sub_ℕ, ◌+ℤ◌, ◌-ℤ◌}
use lib.ListN.{length, take, drop, length-append, length-drop}
use lib.Signed.{le_z, lt_z}
use Rattle.laws.proofs.Branches.{either, alike, and_left}
use Rattle.laws.proofs.Differences as difference
use Rattle.rules.specs.Bytes.{bytes, byte0, point}
use Rattle.rules.specs.Numbers.{neg, count, count_up_to, numeral, plain}
use Rattle.rules.specs.Width.{Width, w32, w64}
use Rattle.rules.specs.Pattern.{magnitude}
use Rattle.rules.specs.Digits.{decimal}
use Rattle.rules.specs.Layout.{zeros, scientific, exponent, by_rule, layout}
use Rattle.rules.specs.Text.{signed, text}
use Rattle.theorems.proofs.CutPlaces.{places}
use Rattle.theorems.proofs.Counting.{length-numeral}
use Rattle.theorems.proofs.LayoutReads.{length-zeros}
use Rattle.theorems.proofs.Widths.{w16}
use Rattle.theorems.proofs.Scale.{finite}
use Rattle.theorems.proofs.Printable.{Printable, printable16, printable32, printable64}
use Rattle.theorems.proofs.Decimal.{printed}
use Rattle.theorems.proofs.RoundTrip.{finite_text, laid_text}
use Rattle.theorems.proofs.Promises.{Ordinary}

-- A digit before what is left of the digits behind it; a zero with nothing left behind it goes.
unfoldable pub joined : ℕ → List ℕ → List ℕ
joined d [] = elim (eqb d byte0) [ true ↦ [] | false ↦ d ∷ [] ]
joined d (x ∷ xs) = d ∷ x ∷ xs

-- Digits without the zeros at their end.
unfoldable pub trimmed : List ℕ → List ℕ
trimmed [] = []
trimmed (d ∷ ds) = joined d (trimmed ds)

-- Digits without the zeros at their end, but the first stays.
unfoldable pub one_kept : List ℕ → List ℕ
one_kept [] = []
one_kept (d ∷ ds) = d ∷ trimmed ds

-- The digits behind the point: of more than 324 the first 324 are kept, then zeros at the end are dropped, but one digit stays.
unfoldable pub decimals : List ℕ → List ℕ
decimals ds = elim (ltb places (length ds)) [ true ↦ one_kept (take places ds) | false ↦ ds ]

-- Digits laid out by k and kk: the first of the crate's rules that holds.
unfoldable pub by_crates_rule : List ℕ → ℤ → ℤ → List ℕ
by_crates_rule ds k kk =
    elim (le_z (pos 0) k && le_z kk (pos 21)) [
      | true ↦ ds ++ (zeros (nat_abs k) ++ bytes ".0")
      | false ↦
          elim (lt_z (pos 0) kk && le_z kk (pos 21)) [
            | true ↦ take (nat_abs kk) ds ++ (point ∷ decimals (drop (nat_abs kk) ds))
            | false ↦
                elim (lt_z (neg 6) kk && le_z kk (pos 0)) [
                  | true ↦ byte0 ∷ point ∷ decimals (zeros (nat_abs kk) ++ ds)
                  | false ↦ elim (lt_z kk (neg places)) [ true ↦ bytes "0.0" | false ↦ scientific ds (kk -ℤ pos 1) ]
                ]
          ]
    ]

-- The crate's layout of the digits' bytes, `len` of them, and the exponent k, with kk = len + k.
unfoldable pub crates_layout : List ℕ → ℤ → List ℕ
crates_layout ds k = by_crates_rule ds k (pos (length ds) +ℤ k)

-- The tests of rules 2 and 3.
abbrev pub Rule2 : ℤ → Type 0
Rule2 kk = T (lt_z (pos 0) kk && le_z kk (pos 21))

abbrev pub Rule3 : ℤ → Type 0
Rule3 kk = T (lt_z (neg 6) kk && le_z kk (pos 0))

-- Digits, `len` of them, and kk reach the cut or rule 4.
pub data Reaches (len : ℕ) (kk : ℤ) : Type 0 where
  -- the digits from the place kk on stand behind the point
  in_rule_2 : Rule2 kk → places < len - nat_abs kk → Reaches len kk
  -- all of them and -kk zeros stand behind the point
  in_rule_3 : Rule3 kk → places < nat_abs kk + len → Reaches len kk
  in_rule_4 : T (lt_z kk (neg places)) → Reaches len kk

-- Digits behind the point stay, unless there are more than 324.
uncut : (ds : List ℕ) → (places < length ds → ⊥) → decimals ds ≡ ds
unfolding decimals
uncut ds few = either (λ (t : List ℕ). t ≡ ds) (ltb places (length ds)) (λ t. absurd (few (ltb→lt places (length ds) t))) (λ t. refl)

-- Where neither is reached the two layouts are one.
pub same_rule : (ds : List ℕ) (k kk : ℤ) → (Reaches (length ds) kk → ⊥) → by_crates_rule ds k kk ≡ by_rule ds k kk
unfolding by_crates_rule by_rule
same_rule ds k kk not-reached =
    alike (le_z (pos 0) k && le_z kk (pos 21)) (λ t. refl)
    (λ t.
    alike (lt_z (pos 0) kk && le_z kk (pos 21))
    (λ u. ap (λ (ts : List ℕ). take (nat_abs kk) ds ++ (point ∷ ts)) (uncut (drop (nat_abs kk) ds) (λ more. not-reached (in_rule_2 u (behind more)))))
    (λ u.
    alike (lt_z (neg 6) kk && le_z kk (pos 0))
    (λ x. ap (λ (ts : List ℕ). byte0 ∷ point ∷ ts) (uncut (zeros (nat_abs kk) ++ ds) (λ more. not-reached (in_rule_3 x (with_zeros more)))))
    (λ x. either (λ (ts : List ℕ). ts ≡ scientific ds (kk -ℤ pos 1)) (lt_z kk (neg places)) (λ y. absurd (not-reached (in_rule_4 y))) (λ y. refl))))
  where
    behind : places < length (drop (nat_abs kk) ds) → places < length ds - nat_abs kk
    behind more = omega (arith, length-drop (nat_abs kk) ds)

    with_zeros : places < length (zeros (nat_abs kk) ++ ds) → places < nat_abs kk + length ds
    with_zeros more = omega (arith, length-append (zeros (nat_abs kk)) ds, length-zeros (nat_abs kk))

-- The lengths and exponents that are printed.
pub record Ranges (len : ℕ) (kk : ℤ) : Type 0 where
  pub few : len ≤ 17
  pub least : T (le_z (neg 323) kk)

-- Rule 2 puts at most 16 digits behind the point.
pub decimals_rule_2 : {len : ℕ} (kk : ℤ) → Ranges len kk → Rule2 kk → len - nat_abs kk ≤ 16
decimals_rule_2 (pos n) r t = omega (arith, r.few, ltb→lt 0 n (and_left (ltb 0 n) (leb n 21) t))
decimals_rule_2 (negsuc n) r t = absurd t

-- Rule 3 puts at most 22 there.
pub decimals_rule_3 : {len : ℕ} (kk : ℤ) → Ranges len kk → Rule3 kk → nat_abs kk + len ≤ 22
decimals_rule_3 (pos n) r t = omega (arith, r.few, leb→le n 0 t)
decimals_rule_3 (negsuc n) r t = omega (arith, r.few, ltb→lt n 5 (and_left (ltb n 5) true t))

-- No length and exponent in the ranges reach the cut or rule 4.
pub unreached : {len : ℕ} (kk : ℤ) → Ranges len kk → Reaches len kk → ⊥
unreached kk r (in_rule_2 t more) = omega (arith, decimals_rule_2 kk r t)
unreached kk r (in_rule_3 t more) = omega (arith, decimals_rule_3 kk r t)
unreached (pos n) r (in_rule_4 t) = t
unreached (negsuc n) r (in_rule_4 t) = omega (arith, leb→le n 322 r.least, ltb→lt (places - 1) n t)

-- A finite pattern other than zero, of any printable width. Zero is not laid out.
module _ (w : Width) (q : ℕ) (p : Printable w q) (v : ℕ) (o : Ordinary w v) where
  abbrev len : ℕ
  len = (decimal w (magnitude w v)).len

  abbrev kk : ℤ
  kk = pos len +ℤ (decimal w (magnitude w v)).k

  pub ranges : Ranges len kk
  ranges =
      let d = printed w q p (magnitude w v) (finite w v p.sound.finite o.finite o.some) in
      let kk-is : kk ≡ sub_ℕ (len + d.up) d.down =
      ap (λ (k : ℤ). pos len +ℤ k) d.k_is ∙ from len d.up d.down in
      record { few = omega (arith, d.few, p.few); least = rw kk-is (least (len + d.up) d.down (omega (arith, d.kk_least))) }
    where
      from : (n a b : ℕ) → pos n +ℤ sub_ℕ a b ≡ sub_ℕ (n + a) b
      from n a b = rw (difference.is_pos n n 0 (omega arith), difference.add) (difference.same (n + a) (0 + b) (n + a) b (omega arith))

      least : (a b : ℕ) → b < a + 324 → T (le_z (neg 323) (sub_ℕ a b))
      least a b near = difference.cases (λ z. T (le_z (neg 323) z)) a b (λ l. le→leb (b - suc a) 322 (omega arith)) (λ l. tt)

  pub never_reached : Reaches len kk → ⊥
  never_reached = unreached kk ranges

  -- The two layouts are one on the pattern's length and exponent, whatever the digits.
  pub same_layout : (ds : List ℕ) → length ds ≡ len → crates_layout ds (decimal w (magnitude w v)).k ≡ layout ds (decimal w (magnitude w v)).k
  unfolding crates_layout layout
  same_layout ds long = rw long (same_rule ds (decimal w (magnitude w v)).k kk (rw long never_reached))

  -- So the text is the one that the crate's layout gives.
  pub crates_text : text w v ≡ signed w v (crates_layout (numeral len (decimal w (magnitude w v)).digits) (decimal w (magnitude w v)).k)
  crates_text =
      let m = magnitude w v in
      let d = decimal w m in
      finite_text w v o.finite
      ∙ ap (signed w v) (laid_text w m o.some ∙ sym (same_layout (numeral len d.digits) (length-numeral len d.digits)))

-- At each of the widths.
pub same_layout16 : (v : ℕ) → Ordinary w16 v → (ds : List ℕ) → length ds ≡ (decimal w16 (magnitude w16 v)).len →
    crates_layout ds (decimal w16 (magnitude w16 v)).k ≡ layout ds (decimal w16 (magnitude w16 v)).k
same_layout16 = same_layout w16 4 printable16

pub same_layout32 : (v : ℕ) → Ordinary w32 v → (ds : List ℕ) → length ds ≡ (decimal w32 (magnitude w32 v)).len →
    crates_layout ds (decimal w32 (magnitude w32 v)).k ≡ layout ds (decimal w32 (magnitude w32 v)).k
same_layout32 = same_layout w32 8 printable32

pub same_layout64 : (v : ℕ) → Ordinary w64 v → (ds : List ℕ) → length ds ≡ (decimal w64 (magnitude w64 v)).len →
    crates_layout ds (decimal w64 (magnitude w64 v)).k ≡ layout ds (decimal w64 (magnitude w64 v)).k
same_layout64 = same_layout w64 16 printable64

-- The digit 1.
abbrev byte1 : ℕ
byte1 = byte0 + 1

-- Beyond them the layouts part: with 325 digits behind the point in rules 2 and 3, and at kk = -325.
parts_in_rule_2 : (crates_layout (byte1 ∷ zeros 325) (neg 325) ≡ bytes "1.0") × (length (layout (byte1 ∷ zeros 325) (neg 325)) ≡ 327)
unfolding crates_layout by_crates_rule layout by_rule decimals one_kept trimmed joined zeros bytes
parts_in_rule_2 = (refl, refl)

parts_in_rule_3 : (crates_layout (byte1 ∷ zeros 324) (neg 325) ≡ bytes "0.1") × (length (layout (byte1 ∷ zeros 324) (neg 325)) ≡ 327)
unfolding crates_layout by_crates_rule layout by_rule decimals one_kept trimmed joined zeros bytes
parts_in_rule_3 = (refl, refl)

parts_in_rule_4 : (crates_layout (byte1 ∷ []) (neg 326) ≡ bytes "0.0") × (layout (byte1 ∷ []) (neg 326) ≡ bytes "1e-326")
unfolding crates_layout by_crates_rule layout by_rule scientific exponent bytes plain count count_up_to numeral
parts_in_rule_4 = (refl, refl)
