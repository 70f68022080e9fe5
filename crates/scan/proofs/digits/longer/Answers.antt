-- `scan::digits::longer` meets its contract: all of the digits are kept. Assumes nothing.
use Rattle.std.proofs.Common.{◌≡◌, ℕ, ◌+◌, ◌*◌, ◌^◌, ◌<◌, refl, subst}
use Rattle.scan.specs.Kept.{Kept}
use Rattle.scan.proofs.Keeping.{longer}
use Rattle.scan.proofs.digits.longer.Goals as goal

-- The room for them, by what stands for the power of ten.
room : (w n v p : ℕ) → p ≡ 10 ^ n → w * 10 ^ n + v < 10 ^ 19 → w * p + v < 10 ^ 19
room w n v p e h = rw e h

pub returns : goal.returns
returns c =
    let held = c.args.held in
    let p = c.pow10.result in
    let v = c.args.v in (
      refl,
      λ a k.
          subst (λ (q : ℕ). Kept (a * q + v) (held.digits * p + v) held.dropped held.more) c.pow10.ensures
          (longer k p v c.requires.1 (room held.digits c.args.n v p c.pow10.ensures c.requires.2)),
    )
