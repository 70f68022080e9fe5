-- `limbs::compare` meets its contract: the limbs are ordered from the highest on. Assumes nothing.
use Rattle.std.proofs.Common.{◌≡◌, refl}
use Rattle.std.specs.Ordering.{nat_cmp}
use Rattle.std.proofs.lemmas.Iterator.Adapters.{YieldsList-from_rev_slice}
use Rattle.std.proofs.lemmas.Iterator.Search.{cmp_from_yields_List}
use Rattle.limbs.proofs.Ordered.{decided}
use Rattle.limbs.proofs.compare.Goals as goal

pub returns : goal.returns
returns c =
    let is = cmp_from_yields_List (λ x y. y ≡ x) _ nat_cmp _ c.cmp.ensures.ran (YieldsList-from_rev_slice c.args.a.now cc)
    (λ it e. YieldsList-from_rev_slice c.args.b.now cc) (λ x y. refl) in
    decided _ _ (λ k. (c.type_inv.a k).fits) (λ k. (c.type_inv.b k).fits) c.requires c.cmp.result is
