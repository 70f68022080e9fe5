-- What a call promises allows one result only. Assumes nothing.
use mathlib.Core.Bool.{true, false}
use mathlib.Core.List.{List}
use mathlib.Core.Path.{◌≡◌, refl, sym, ap, ◌∙◌}
use Prim.Native.Nat.{ℕ}
use lib.Dec.{eqb}
use Rattle.rules.specs.Width.{Width, w32, w64}
use Rattle.rules.specs.Answer.{Entry, every, finite_only, Answer}
use Rattle.dtoa.specs.Meets.{Meets, told}
use Rattle.dtoa.specs.MeetsRow.{MeetsRow, row_told}
use Rattle.std.specs.Prelude.{Result, Ok, Err}
use Rattle.dtoa.specs.declared.Refusal.{Refusal}
use Rattle.dtoa.specs.declared.Refusal.TheVariants.{TooShort, NotFinite}
use Rattle.dtoa.specs.declared.RowRefusal.{RowRefusal}
use Rattle.dtoa.specs.declared.RowRefusal.TheVariants as many

-- Two results are one: the same case, and the same bytes.
pub record One {A : Type 0} (o p : A) (s t : List ℕ) : Type 0 where
  pub outcome : o ≡ p
  pub bytes : s ≡ t

-- Where the case can be found from its number and length, an answer has one case.
once : {A : Type 0} (tell : A → Answer) (found : Answer → A) → ((o : A) → found (tell o) ≡ o) → {o p : A} {a : Answer} {s t left : List ℕ} →
    tell o ≡ a → tell p ≡ a → s ≡ left → t ≡ left → One o p s t
once tell found back {o} {p} d e f g = record { outcome = sym (back o) ∙ ap found (d ∙ sym e) ∙ back p; bytes = f ∙ sym g }

-- The case of an answer.
case : Answer → Result ℕ Refusal
case a = elim (eqb a.number 0) [ true ↦ Ok a.len | false ↦ elim (eqb a.number 1) [ true ↦ (Err TooShort) | false ↦ (Err NotFinite) ] ]

case_back : (o : Result ℕ Refusal) → case (told o) ≡ o
unfolding case
case_back (Ok n) = refl
case_back (Err TooShort) = refl
case_back (Err NotFinite) = refl

row_case : Answer → Result ℕ RowRefusal
row_case a =
    elim (eqb a.number 0) [ true ↦ Ok a.len | false ↦ elim (eqb a.number 3) [ true ↦ (Err many.TooMany) | false ↦ (Err many.TooShort) ] ]

row_case_back : (o : Result ℕ RowRefusal) → row_case (row_told o) ≡ o
unfolding row_case
row_case_back (Ok n) = refl
row_case_back (Err many.TooMany) = refl
row_case_back (Err many.TooShort) = refl

-- Any two results that a call's contract allows are equal.
pub one_result : (c : Entry) (w : Width) (v : ℕ) (before : List ℕ) {o p : Result ℕ Refusal} {s t : List ℕ} →
    Meets c w v before o s → Meets c w v before p t → One o p s t
one_result c w v before a b = once told case case_back a.answers b.answers a.bytes b.bytes

-- So it is for each of the four, and for a row.
pub format32_once : (v : ℕ) (before : List ℕ) {o p : Result ℕ Refusal} {s t : List ℕ} → Meets every w32 v before o s → Meets every w32 v before p t → One o p s t
format32_once = one_result every w32

pub format64_once : (v : ℕ) (before : List ℕ) {o p : Result ℕ Refusal} {s t : List ℕ} → Meets every w64 v before o s → Meets every w64 v before p t → One o p s t
format64_once = one_result every w64

pub format_finite32_once : (v : ℕ) (before : List ℕ) {o p : Result ℕ Refusal} {s t : List ℕ} →
    Meets finite_only w32 v before o s → Meets finite_only w32 v before p t → One o p s t
format_finite32_once = one_result finite_only w32

pub format_finite64_once : (v : ℕ) (before : List ℕ) {o p : Result ℕ Refusal} {s t : List ℕ} →
    Meets finite_only w64 v before o s → Meets finite_only w64 v before p t → One o p s t
format_finite64_once = one_result finite_only w64

pub format_row32_once : (vs before : List ℕ) {o p : Result ℕ RowRefusal} {s t : List ℕ} → MeetsRow w32 vs before o s → MeetsRow w32 vs before p t → One o p s t
format_row32_once vs before a b = once row_told row_case row_case_back a.answers b.answers a.bytes b.bytes
