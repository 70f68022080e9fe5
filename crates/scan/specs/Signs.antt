-- A `-` that a text, or its exponent, begins with. Assumes nothing.
use Rattle.std.specs.Prelude.{◌≡◌, Bool, List, ℕ}
use Rattle.rules.specs.Bytes.{minus}
use Rattle.scan.specs.Heads.{begins}
use Rattle.scan.specs.Mantissa.{behind_sign}

-- The sign at the head of the text t, and the text behind it.
pub record Signs (t : List ℕ) (sign : Bool) (rest : List ℕ) : Type 0 where
  pub negative : sign ≡ begins minus t
  pub behind : rest ≡ behind_sign sign t
