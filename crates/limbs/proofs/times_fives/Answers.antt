-- `limbs::times_fives` meets its contract: the limbs, times the fives that are left, are the product. Assumes nothing.
use Rattle.std.proofs.Common.{◌≡◌, ℕ, ◌/◌, ◌-◌, ◌*◌, ◌+◌, ◌^◌, ◌≤◌, ◌%◌, arith, lit<}
use native.Mathlib.Nat.{pow-le-pow_right}
use Rattle.limbs.proofs.Fives.{fits, step}
use Rattle.limbs.proofs.times_fives.Goals as goal

pub mul_add-requires : goal.mul_add-requires
mul_add-requires c = fits _ _ _ _ c.loop.invariant 13 (omega arith) c.requires

pub loop-preserved : goal.loop-preserved
loop-preserved c =
    let less : c.args.n - 13 * (c.loop.counter + 1) ≡ c.args.n - 13 * c.loop.counter - 13 = omega arith in
    rw less (step _ _ _ _ c.loop.invariant 13 (omega arith) _ c.mul_add.ensures)

pub pow-requires : goal.pow-requires
pow-requires c =
    let most : 5 ^ (c.args.n % 13) ≤ 5 ^ 12 = pow-le-pow_right (lit< tt) {j = 12} (omega arith) in
    omega (arith, most)

-- Behind the turns fewer than thirteen fives are left.
few : (n k : ℕ) → n / 13 ≤ k → k ≤ n / 13 → n - 13 * k ≡ n % 13
few n k least most = omega arith

pub mul_add-requires-2 : goal.mul_add-requires-2
mul_add-requires-2 c = rw (c.pow.ensures, ← few c.args.n c.loop.counter (omega arith) (omega arith)) (fits _ _ _ _ c.loop.invariant (c.args.n - 13 * c.loop.counter) (omega arith) c.requires)
