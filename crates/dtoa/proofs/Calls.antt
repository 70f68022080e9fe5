-- What crates above the printer rely on, from the contract of a call alone: the length's bound, the text, the bytes behind it, the round trip.
-- Assumes nothing.
use mathlib.Core.Bool.{not}
use mathlib.Core.List.{List}
use mathlib.Core.Path.{◌≡◌, sym, ◌∙◌}
use Prim.Native.Nat.{ℕ, ◌^◌, ◌≤◌, ◌<◌}
use native.Mathlib.Omega.{arith}
use lib.Dec.{T}
use lib.ListN.{length, take, drop}
use Rattle.rules.specs.Width.{Width, w32, w64}
use Rattle.rules.specs.Pattern.{special}
use Rattle.rules.specs.Text.{text}
use Rattle.rules.specs.Reading.{ReadsAs}
use Rattle.rules.specs.Answer.{Entry}
use Rattle.theorems.proofs.Results.{put_length, text_put, rest_kept}
use Rattle.theorems.proofs.Printable.{Printable, printable32, printable64}
use Rattle.theorems.proofs.TextLength.{text-length}
use Rattle.theorems.proofs.RoundTrip.{restored, distinct}
use Rattle.dtoa.specs.Meets.{Meets}
use Rattle.std.specs.Prelude.{Ok}
use Rattle.dtoa.proofs.Outcomes.{right}

-- A call that printed n bytes.
module _ (c : Entry) (w : Width) (v : ℕ) (before last : List ℕ) (n : ℕ) (m : Meets c w v before (Ok n) last) where
  -- The text definition: the bytes up to the length are the pattern's text.
  pub text_definition : take n last ≡ text w v
  text_definition = text_put (right c w v before m)

  -- The bytes from the length on are as before.
  pub bytes_behind : drop n last ≡ drop n before
  bytes_behind = rest_kept (right c w v before m)

  -- The length bound.
  pub length_bound : {q : ℕ} → Printable w q → (3 ≤ n) × (n ≤ 25)
  length_bound {q} p =
      let is : n ≡ length (text w v) = put_length (right c w v before m) in
      let t = text-length w q p v in (omega (arith, t.least), omega (arith, t.most))

  -- The round trip: what stands in the buffer up to the length reads as the pattern.
  pub round_trip : {q : ℕ} → Printable w q → v < 2 ^ w.bits → T (not (special w v)) → ReadsAs w (take n last) v
  round_trip {q} p bound finite = rw text_definition (restored w q p v finite bound)

-- Two calls on finite patterns that leave the same bytes up to their lengths were given the same pattern.
pub same_bytes_same_pattern : (w : Width) {q : ℕ} → Printable w q → (c d : Entry) (u v : ℕ) (before earlier last later : List ℕ) (n k : ℕ) →
    Meets c w u before (Ok n) last → Meets d w v earlier (Ok k) later →
    u < 2 ^ w.bits → v < 2 ^ w.bits → T (not (special w u)) → T (not (special w v)) → take n last ≡ take k later → u ≡ v
same_bytes_same_pattern w {q} p c d u v before earlier last later n k a b hu hv fu fv same =
    distinct w q p u v hu hv fu fv (sym (text_definition c w u before last n a) ∙ same ∙ text_definition d w v earlier later k b)

-- At both widths, for either entry.
pub round_trip32 : (c : Entry) (v : ℕ) (before last : List ℕ) (n : ℕ) → Meets c w32 v before (Ok n) last → v < 2 ^ 32 → T (not (special w32 v)) →
    ReadsAs w32 (take n last) v
unfolding w32
round_trip32 c v before last n m = round_trip c w32 v before last n m printable32

pub round_trip64 : (c : Entry) (v : ℕ) (before last : List ℕ) (n : ℕ) → Meets c w64 v before (Ok n) last → v < 2 ^ 64 → T (not (special w64 v)) →
    ReadsAs w64 (take n last) v
unfolding w64
round_trip64 c v before last n m = round_trip c w64 v before last n m printable64
