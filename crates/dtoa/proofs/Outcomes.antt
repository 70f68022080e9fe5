-- What each way to end a call promises. Assumes nothing.
use mathlib.Core.Bool.{true, false, not}
use mathlib.Core.List.{List}
use mathlib.Core.Path.{◌≡◌, refl, ◌∙◌}
use Prim.Native.Nat.{ℕ, ◌≤◌, ◌<◌}
use native.Mathlib.Omega.{arith}
use lib.Dec.{T, ltb, lt→ltb, ltb→lt, T_not}
use lib.ListN.{length}
use Rattle.laws.specs.Puts.{Puts}
use Rattle.laws.proofs.Branches.{either, taken}
use Rattle.rules.specs.Width.{Width}
use Rattle.rules.specs.Text.{text}
use Rattle.rules.specs.Answer.{Entry, refuses, number, answer, after}
use Rattle.theorems.proofs.Results as results
use Rattle.theorems.proofs.Results.{Right}
use Rattle.dtoa.specs.Meets.{Meets, told}
use Rattle.std.specs.Prelude.{Result, Ok, Err}
use Rattle.dtoa.specs.declared.Refusal.{Refusal}
use Rattle.dtoa.specs.declared.Refusal.TheVariants.{TooShort, NotFinite}

module _ (c : Entry) (w : Width) (v : ℕ) (before : List ℕ) where
  -- What a call promises is that its answer and its bytes are right for its number and its text.
  pub meets : {o : Result ℕ Refusal} {last : List ℕ} → Right (number c w v (length before)) (text w v) before (told o) last → Meets c w v before o last
  unfolding answer after
  meets r = record { answers = r.answers; bytes = r.bytes }

  pub right : {o : Result ℕ Refusal} {last : List ℕ} → Meets c w v before o last → Right (number c w v (length before)) (text w v) before (told o) last
  unfolding answer after
  right m = record { answers = m.answers; bytes = m.bytes }

  -- A buffer shorter than 25 bytes.
  pub too_short : length before < 25 → Meets c w v before (Err TooShort) before
  unfolding number
  too_short short = meets (results.refused (taken _ (ltb (length before) 25) (lt→ltb (length before) 25 short) refl) tt)

  enough : 25 ≤ length before → number c w v (length before) ≡ elim (refuses c w v) as (λ _. ℕ) [ true ↦ 2 | false ↦ 0 ]
  unfolding number
  enough room =
      either (λ (n : ℕ). n ≡ elim (refuses c w v) as (λ _. ℕ) [ true ↦ 2 | false ↦ 0 ]) (ltb (length before) 25)
      (λ t. absurd (omega (arith, ltb→lt (length before) 25 t))) (λ t. refl)

  -- A pattern that the entry refuses.
  pub not_finite : 25 ≤ length before → T (refuses c w v) → Meets c w v before (Err NotFinite) before
  not_finite room refused = meets (results.refused (enough room ∙ taken 0 (refuses c w v) refused refl) tt)

  -- A printed text.
  pub printed : 25 ≤ length before → T (not (refuses c w v)) → {last : List ℕ} {next : ℕ} → Puts (text w v) before 0 last next → Meets c w v before (Ok next) last
  printed room allowed puts =
      meets (results.printed (enough room ∙ either (λ (n : ℕ). n ≡ 0) (refuses c w v) (λ t. absurd (T_not (refuses c w v) allowed t)) (λ t. refl)) puts)
