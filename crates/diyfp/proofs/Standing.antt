-- What a pair of the code stands for is one pair, and a pair is stood for by one of the code's. Assumes nothing.
use mathlib.Core.Path.{◌≡◌, sym, subst, ◌∙◌}
use native.Mathlib.Omega.{arith}
use Rattle.laws.proofs.Differences.{crossed}
use Rattle.rules.specs.Width.{Width, off}
use Rattle.rules.specs.Pattern.{Pair}
use Rattle.diyfp.specs.declared.DiyFp.{DiyFp}
use Rattle.diyfp.specs.Pairs.{Stands, StandsIn, Becomes}

-- Two answers that stand for one pair are the same.
pub stands_alone : {w : Width} {m : Pair} {p r : DiyFp} → Stands w m p → Stands w m r → p ≡ r
stands_alone {w} {m} {p} {r} s t =
    let f : p.f ≡ r.f = s.significand ∙ sym t.significand in
    let e : p.e ≡ r.e = s.exponent ∙ sym t.exponent in
    λ i. record { f = f i; e = e i }

-- Two pairs that one answer stands for are equal.
pub stands_for_one : {w : Width} {m n : Pair} {p : DiyFp} → Stands w m p → Stands w n p → m ≡ n
stands_for_one {w} {m} {n} s t =
    let f : m.f ≡ n.f = sym s.significand ∙ t.significand in
    let exp : m.exp ≡ n.exp = omega (arith, crossed m.exp (off w) n.exp (off w) (sym s.exponent ∙ t.exponent)) in
    λ i. record { f = f i; exp = exp i }

-- So are two answers that one pair becomes in the same way.
pub becomes_alone : {w : Width} {P : Pair → Type 0} {to : Pair → Pair} {p r s : DiyFp} → StandsIn w P p → Becomes w to p r → Becomes w to p s → r ≡ s
becomes_alone k b c = stands_alone (b k.pair k.stands) (c k.pair k.stands)

-- So a pair that an answer stands for has the kind that is known of it.
pub kind : {w : Width} {P : Pair → Type 0} {p : DiyFp} → StandsIn w P p → (m : Pair) → Stands w m p → P m
kind {P = P} k m s = subst P (stands_for_one k.stands s) k.kind
