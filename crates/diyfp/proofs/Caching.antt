-- The entry at the index: it is in the table, and what is computed of it is held. Assumes nothing.
use mathlib.Core.Path.{◌≡◌, sym, ap, ◌∙◌}
use Prim.Native.Nat.{ℕ, ◌+◌, ◌*◌, ◌%◌, ◌^◌, ◌≤◌, ◌<◌}
use native.Mathlib.Nat.{mod-eq_of_lt, mul_comm}
use native.Mathlib.Omega.{arith}
use lib.IntN.{ℤ, pos, nat_abs, sub_ℕ, ◌+ℤ◌, ◌-ℤ◌}
use lib.ListN.{length, get_or}
use lib.Signed.{shr_z}
use mir.Syntax.{w32}
use mir.Val.{to_z}
use Rattle.laws.proofs.Differences.{same, is_pos, minus}
use Rattle.laws.proofs.Signed as signed
use Rattle.laws.proofs.Signed.{read, Is, Held, unchanged, natural}
use Rattle.rules.specs.Width.{Width, off}
use Rattle.rules.specs.Power.{k, index, P}
use Rattle.theorems.proofs.Widths.{Sound}
use Rattle.theorems.proofs.Power.{Reach, reach}
use Rattle.powers.specs.Powers.{Served, Indexable}
use Rattle.patterns.specs.Small.{Small}
use Rattle.powers.proofs.Indexing.{most, k_read, k_indexable}
use Rattle.diyfp.specs.Pairs.{Cached}

module _ {w : Width} {q : ℕ} (sound : Sound w q) (small : Small w) {e : ℤ} (p : Served w e) where
  -- The exponent itself is held ..
  own : read e ≡ e
  own =
      let is : Is e p.raised (off w) = record { is = p.exponent } in
      unchanged is (omega (arith, p.most, small.sum))

  -- .. so it is served as it is read.
  pub served : Served w (read e)
  served = rw own p

  -- Where z is the exponent's k ..
  module _ {z : ℤ} (asked : (E : ℕ) → read e ≡ sub_ℕ E (off w) → z ≡ k w E) where
    k_is : (E : ℕ) → e ≡ sub_ℕ E (off w) → read z ≡ k w E
    k_is E is = ap read (asked E (own ∙ is)) ∙ k_read sound small E (most p E is)

    -- .. it has an index ..
    pub has_index : Indexable (read z)
    has_index = rw (k_is p.raised p.exponent) (k_indexable sound small p.raised p.most)

    -- .. and where i is that ..
    module _ {i : ℕ} (found : i ≡ nat_abs (shr_z (read z) 8 +ℤ pos 1)) where
      at : (E : ℕ) → e ≡ sub_ℕ E (off w) → i ≡ index w E
      unfolding index
      at E is = found ∙ ap (λ (x : ℤ). nat_abs (shr_z x 8 +ℤ pos 1)) (k_is E is)

      reached : Reach w p.raised
      reached = reach w q sound p.raised p.most

      -- .. the table has its entry ..
      pub inside : i < length w.significands
      inside = rw (at p.raised p.exponent) reached.inside

      -- .. eight times i is no less in its word ..
      pub eightfold : i * 8 % 2 ^ 64 ≡ 8 * i
      eightfold = mod-eq_of_lt (omega (arith, inside, small.sum)) ∙ mul_comm i 8

      decimal : Is (to_z w32 (i * 8 % 2 ^ 64)) (8 * i) 0
      decimal = rw eightfold (natural (omega (arith, inside, small.sum)))

      -- .. the decimal exponent is held ..
      pub decimal_held : Held (pos w.tens -ℤ to_z w32 (i * 8 % 2 ^ 64)) (w.tens + 0) (0 + 8 * i)
      decimal_held =
          signed.apart (record { is = is_pos w.tens w.tens 0 (omega arith) }) decimal
          (omega (arith, inside, small.sum))

      -- .. and so is the binary one: the pair is the entry.
      pub cached : {f : ℕ} {x : ℤ} → f ≡ get_or w.significands i 0 → x ≡ sub_ℕ (get_or w.exponents i 0) w.twos →
          (E : ℕ) → e ≡ sub_ℕ E (off w) → Cached w E (record { power = record { f = f; e = read x }; k = read (pos w.tens -ℤ to_z w32 (i * 8 % 2 ^ 64)) })
      unfolding P
      cached {f} {x} significand exponent E is =
          let held : Is x (get_or w.exponents i 0) w.twos = record { is = exponent } in
          record {
            significand = rw (sym (at E is)) significand;
            exponent = unchanged held (omega (arith, low, small.sum)) ∙ rw (sym (at E is)) exponent;
            decimal =
                decimal_held.back.is
                ∙ rw (sym (at E is)) (same (w.tens + 0) (0 + 8 * i) w.tens (8 * i) (omega arith) ∙ sym (minus (8 * i) w.tens));
          }
        where
          low : get_or w.exponents i 0 ≤ off w + w.twos
          low = rw (at p.raised p.exponent) (omega (arith, reached.least_x))
