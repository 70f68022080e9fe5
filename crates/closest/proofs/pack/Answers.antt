-- `closest::pack` meets its contract: a shift by the leading zeros leaves the number. Assumes nothing.
use mathlib.Core.Logic.{⊎_elim}
use mathlib.Core.Path.{◌≡◌, sym, ap, ◌∙◌}
use Prim.Native.Nat.{ℕ, ◌-◌, ◌*◌, ◌%◌, ◌^◌, ◌≤◌, ◌<◌}
use native.Mathlib.Nat.{mod-eq_of_lt, mul_assoc, mul-le-mul_left}
use native.Mathlib.Omega.{arith}
use lib.Count.{count_leading_zeros}
use lib.Pow.{pow-add, pow_mono}
use Rattle.laws.proofs.Branches.{which}
use Rattle.laws.proofs.Zeros.{Fills, fills}
use Rattle.rules.specs.Reading.{nearest}
use Rattle.closest.proofs.pack.Goals as goal
use Rattle.closest.proofs.pack.Goals.{Start}

abbrev zeros : Start → ℕ
zeros s = count_leading_zeros 64 s.args.m

filled : (s : Start) → Fills 64 s.args.m (zeros s)
filled s = fills 64 s.args.m (omega (arith, s.requires.0)) (omega arith)

-- A number of 63 bits or 64 has one leading zero or none.
few : (s : Start) → zeros s < 2
few s =
    ⊎_elim (λ less. less)
    (λ (more : 2 ≤ zeros s). absurd (omega (arith, (filled s).fits, mul-le-mul_left s.args.m (pow_mono {i = 2} {j = zeros s} more))))
    (which (zeros s) 2)

shifted : (s : Start) → s.args.m * 2 ^ zeros s % 2 ^ 64 ≡ s.args.m * 2 ^ zeros s
shifted s = mod-eq_of_lt (filled s).fits

-- The same number before and after.
same : (s : Start) → s.args.m * 2 ^ zeros s % 2 ^ 64 * 2 ^ (s.args.e - zeros s) ≡ s.args.m * 2 ^ s.args.e
same s =
    ap (λ (x : ℕ). x * 2 ^ (s.args.e - zeros s)) (shifted s)
    ∙ mul_assoc s.args.m (2 ^ zeros s) (2 ^ (s.args.e - zeros s))
    ∙ ap (λ (x : ℕ). s.args.m * x) (sym (pow-add 2 (zeros s) (s.args.e - zeros s)) ∙ ap (λ (x : ℕ). 2 ^ x) (omega (arith, few s)))

pub overflow_sub-e : goal.overflow_sub-e
overflow_sub-e c = omega (arith, few c)

pub pack_high-requires : goal.pack_high-requires
pack_high-requires c = (rw (shifted c) (filled c).top, omega arith, c.requires.3)

pub returns : goal.returns
returns c w g = c.pack_high.ensures w g ∙ ap (λ (x : ℕ). nearest w x (2 ^ 1200)) (same c.before)
