-- What the printer's calls printed, the reader's calls read back: over the contracts of both, for every pattern but NaN. Assumes nothing.
use mathlib.Core.List.{List}
use mathlib.Core.Path.{◌≡◌, sym, ap, ◌∙◌}
use Prim.Native.Nat.{ℕ, ◌^◌, ◌<◌}
use lib.Dec.{T}
use lib.ListN.{take}
use Rattle.std.specs.Prelude.{Result, Ok}
use Rattle.rules.specs.Width.{w32, w64}
use Rattle.rules.specs.Pattern.{significand, special}
use Rattle.rules.specs.Answer.{Entry}
use Rattle.rules.specs.Reader.{reading}
use Rattle.theorems.proofs.Promises.{read_back32, read_back64}
use Rattle.dtoa.specs.Meets.{Meets}
use Rattle.dtoa.proofs.Calls.{text_definition}
use Rattle.reader.specs.Told.{told}
use Rattle.reader.specs.declared.ReadError.{ReadError}
use Rattle.reader.proofs.Unique.{read32_once, read64_once}

-- A call of either entry printed v as the first n bytes of its buffer; a call that reads these answers v.
pub printed_back32 : (c : Entry) (v : ℕ) (before last : List ℕ) (n : ℕ) → Meets c w32 v before (Ok n) last → v < 2 ^ 32 →
    (T (special w32 v) → significand w32 v ≡ 0) → (o : Result ℕ ReadError) → told (λ v. v) o ≡ reading w32 (take n last) → o ≡ Ok v
printed_back32 c v before last n m bound no_nan o reads =
    let t = text_definition c w32 v before last n m in
    read32_once (take n last) reads (sym (ap (reading w32) t ∙ read_back32 v bound no_nan))

pub printed_back64 : (c : Entry) (v : ℕ) (before last : List ℕ) (n : ℕ) → Meets c w64 v before (Ok n) last → v < 2 ^ 64 →
    (T (special w64 v) → significand w64 v ≡ 0) → (o : Result ℕ ReadError) → told (λ v. v) o ≡ reading w64 (take n last) → o ≡ Ok v
printed_back64 c v before last n m bound no_nan o reads =
    let t = text_definition c w64 v before last n m in
    read64_once (take n last) reads (sym (ap (reading w64) t ∙ read_back64 v bound no_nan))
