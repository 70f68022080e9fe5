-- Digits put into limbs, nine at a time. Assumes nothing.
use mathlib.Core.Path.{◌≡◌, sym, ◌∙◌}
use mathlib.Core.List.{List}
use Prim.Native.Nat.{ℕ, ◌+◌, ◌*◌, ◌<◌}
use native.Mathlib.Omega.{arith}
use lib.ListN.{length}
use Rattle.scan.specs.Mantissa.{mantissa}
use Rattle.limbs.specs.Chunked.{Chunked}
use Rattle.limbs.specs.Total.{total, room, Becomes}
use Rattle.limbs.proofs.Chunks.{at_end}
use Rattle.limbs.proofs.Digits.{grows}
use Rattle.limbs.proofs.Low.{same-room}

-- The digits of t before its rest u are in a, and those of u are still to come.
pub record Read (l t a u : List ℕ) : Type 0 where
  pub same : length a ≡ length l
  pub rest : mantissa (total a) u ≡ mantissa 0 t

module _ {l t a u v : List ℕ} {number power : ℕ} (r : Read l t a u) (c : Chunked u number power v) where
  -- Some digits more have room ..
  pub fits : mantissa 0 t < room l → total a * power + number < room a
  fits holds = omega (arith, grows (total a * power + number) v, c.reads (total a), r.rest, same-room a l r.same)

  module _ {b : List ℕ} (done : Becomes a b (total a * power + number)) where
    -- .. and once they are in the limbs, the digits behind them are to come.
    pub step : Read l t b v
    step = record { same = done.same ∙ r.same; rest = rw done.is (sym (c.reads (total a)) ∙ r.rest) }

-- At the text's end.
pub finished : {l t a u : List ℕ} → Read l t a u → length u < 1 → Becomes l a (mantissa 0 t)
finished {a = a} {u = u} r end = record { same = r.same; is = sym (at_end u end (total a)) ∙ r.rest }
