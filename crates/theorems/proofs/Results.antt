-- What the number of an answer settles: at 0 the text stands in the buffer, at a refusal nothing moved. Assumes nothing.
use mathlib.Core.Bool.{not}
use mathlib.Core.List.{List, ◌++◌}
use mathlib.Core.Path.{◌≡◌, refl, sym, ap, ◌∙◌}
use Prim.Native.Nat.{ℕ, ◌≤◌}
use native.Mathlib.Omega.{arith}
use lib.Dec.{T, eqb, eqb→eq}
use lib.ListN.{length, take, drop, length-append, length-drop}
use lib.Seq.{take_at, drop_at}
use Rattle.laws.specs.Puts.{Puts}
use Rattle.laws.proofs.Branches.{either, is_false}
use Rattle.laws.proofs.Puts.{from_start}
use Rattle.rules.specs.Answer.{Answer, answering, leaving}

-- A call that answers a and leaves `last` in the buffer is right, where its answer has the number n and would print t.
pub record Right (n : ℕ) (t before : List ℕ) (a : Answer) (last : List ℕ) : Type 0 where
  pub answers : a ≡ answering n t
  pub bytes : last ≡ leaving n t before

module _ {n : ℕ} {t before : List ℕ} where
  -- A refusal.
  pub refused : {m : ℕ} → n ≡ m → T (not (eqb m 0)) → Right n t before (record { number = m; len = 0 }) before
  unfolding answering leaving
  refused {m} e h = record { answers = rw (e, answering, is_false (eqb m 0) h); bytes = rw (e, leaving, is_false (eqb m 0) h) }

  -- A printed text.
  pub printed : {last : List ℕ} {next : ℕ} → n ≡ 0 → Puts t before 0 last next → Right n t before (record { number = 0; len = next }) last
  unfolding answering leaving
  printed {last} {next} e p =
      record {
        answers = rw (e, answering) (ap (λ (l : ℕ). record { number = 0; len = l }) (p.behind ∙ omega arith));
        bytes = rw (e, leaving) (from_start p);
      }

-- A buffer keeps its length, if there was room for what is printed.
pub left_length : (n : ℕ) (t before : List ℕ) → (n ≡ 0 → length t ≤ length before) → length (leaving n t before) ≡ length before
unfolding leaving
left_length n t before room =
    either (λ (l : List ℕ). length l ≡ length before) (eqb n 0)
    (λ z. simp (length-append, length-drop) (omega (arith, room (eqb→eq n 0 z)))) (λ z. refl)

-- What a call that printed k bytes is known to have done.
module _ {n k : ℕ} {t before last : List ℕ} (r : Right n t before (record { number = 0; len = k }) last) where
  pub is_printed : n ≡ 0
  unfolding answering
  is_printed = sym (ap (λ (a : Answer). a.number) r.answers)

  -- Its length is the text's.
  pub put_length : k ≡ length t
  unfolding answering
  put_length = rw (is_printed, answering) at (ap (λ (a : Answer). a.len) r.answers)

  whole : last ≡ t ++ drop (length t) before
  unfolding leaving
  whole = rw (is_printed, leaving) at r.bytes

  -- Its bytes up to k are the text.
  pub text_put : take k last ≡ t
  text_put = ap (take k) whole ∙ take_at t _ k (sym put_length)

  -- And from there on the buffer is as it was.
  pub rest_kept : drop k last ≡ drop k before
  rest_kept = ap (drop k) whole ∙ drop_at t _ k (sym put_length) ∙ ap (λ (l : ℕ). drop l before) (sym put_length)
