-- `powers::power_k` meets its contract. Assumes nothing.
use mathlib.Core.Path.{◌≡◌}
use Prim.Native.Nat.{ℕ, ◌-◌}
use native.Mathlib.Omega.{arith}
use lib.Dec.{lit≤}
use lib.IntN.{pos, sub_ℕ}
use mir.Syntax.{w32}
use mir.Val.{to_z}
use Rattle.rules.specs.Width.{off}
use Rattle.powers.proofs.Casts.{cast}
use Rattle.powers.proofs.Indexing.{Steps, most, held_below, steps}
use Rattle.powers.proofs.power_k.Given.{Over}
use Rattle.powers.proofs.power_k.Goals as goal
use Rattle.powers.proofs.power_k.Goals.{After-PAIR}

at : (g : Over) (c : After-PAIR g) (E : ℕ) → c.args.e ≡ sub_ℕ E (off g.P.Pattern.width) → Steps g.P.Pattern.width c.args.e E
at g c E p =
    steps g.met.P.Pattern.printable.sound g.met.P.Pattern.small g.met.P.Powers.tabled.handy E (record { is = p }) (most c.requires E p)

own : (g : Over) (c : After-PAIR g) → Steps g.P.Pattern.width c.args.e c.requires.raised
own g c = at g c c.requires.raised c.requires.exponent

-- The constants as they are cast.
pair : (g : Over) (c : After-PAIR g) → to_z w32 (c.PAIR.result - 3) ≡ pos (g.P.Pattern.width.N - 3)
pair g c =
    let is = g.met.P.Pattern.numbers.pair_is in
    cast _ _ (omega (arith, c.PAIR.ensures, is)) (omega (arith, c.PAIR.ensures, is, g.met.P.Pattern.small.sum))

tens : (g : Over) (c : After-PAIR g) → to_z w32 (c.TENS.result - 1) ≡ pos (g.P.Pattern.width.tens - 1)
tens g c =
    let is = g.met.P.Powers.tabled.tens_is in
    cast _ _ (omega (arith, c.TENS.ensures, is)) (omega (arith, c.TENS.ensures, is, g.met.P.Pattern.small.sum))

pub overflow_sub-result-3 : goal.overflow_sub-result-3
overflow_sub-result-3 g c =
    rw (pair g c, tens g c)
    (held_below g.met.P.Pattern.printable.sound g.met.P.Pattern.small g.met.P.Powers.tabled.handy c.requires.raised
    (record { is = c.requires.exponent }) (most c.requires c.requires.raised c.requires.exponent) (lit≤ tt))

pub returns : goal.returns
returns g c E p = rw (pair g c, tens g c) (at g c E p).is
