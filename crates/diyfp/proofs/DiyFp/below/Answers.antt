-- `diyfp::DiyFp::below` meets its contract. Assumes nothing.
use mathlib.Core.Path.{◌≡◌, ap}
use Prim.Native.Nat.{ℕ, ◌+◌, ◌-◌, ◌*◌, ◌%◌, ◌^◌, ◌≤◌}
use native.Mathlib.Omega.{arith}
use lib.Dec.{lit≤}
use lib.Pow.{pow_mono}
use Rattle.rules.specs.Pattern.{Pair}
use Rattle.diyfp.specs.Pairs.{Stands}
use Rattle.diyfp.proofs.Bounding.{multiple, hidden, other}
use Rattle.diyfp.proofs.DiyFp.below.Given.{Over}
use Rattle.diyfp.proofs.DiyFp.below.Goals as goal
use Rattle.diyfp.proofs.DiyFp.below.Goals.{After-hidden_bit-hidden}

-- The significand times 2 or 4.
times : (g : Over) (c : After-hidden_bit-hidden g) (d : ℕ) → d ≤ 4 → (m : Pair) → Stands g.P.Pattern.width m c.args.self →
    c.args.self.f * d % 2 ^ 64 ≡ d * m.f
times g c d few =
    let word = pow_mono {i = g.P.Pattern.width.S + 3} {j = 64} (omega (arith, g.met.P.Pattern.numbers.few)) in
    multiple g.met.P.Pattern.small c.requires d (2 ^ 64) few word

pub returns-then-self-hidden : goal.returns-then-self-hidden
returns-then-self-hidden g c m s =
    let room = g.met.P.Pattern.printable.sound.wide in
    hidden g.met.P.Pattern.small c.requires m s (omega (arith, room)) (omega (arith, s.significand, c.if-self-hidden.true, c.hidden_bit-hidden.ensures))
    (ap (λ (x : ℕ). x - 1) (times g (goal.at.returns-then-self-hidden g c).After-hidden_bit-hidden 4 (lit≤ tt) m s))

pub returns : goal.returns
returns g c m s =
    let room = g.met.P.Pattern.printable.sound.wide in
    other g.met.P.Pattern.small c.requires m s (omega (arith, room)) (λ at. omega (arith, at, s.significand, c.if-self-hidden.false, c.hidden_bit-hidden.ensures))
    (ap (λ (x : ℕ). x - 1) (times g (goal.at.returns g c).After-hidden_bit-hidden 2 (lit≤ tt) m s))
