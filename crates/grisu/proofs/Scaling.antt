-- The scaled numbers of a finite magnitude, as the pairs compute them. Assumes nothing.
use mathlib.Core.Path.{◌≡◌, refl, sym, ap, ap₂, ◌∙◌, subst}
use Prim.Native.Nat.{ℕ, ◌+◌, ◌-◌, ◌*◌, ◌^◌, ◌≤◌, ◌<◌}
use native.Mathlib.Omega.{arith}
use lib.Dec.{T}
use lib.IntN.{ℤ, pos, nat_abs, neg_ℤ, sub_ℕ, ◌+ℤ◌, ◌-ℤ◌}
use lib.ListN.{get_or}
use lib.Pow.{pow_mono}
use lib.Signed.{mag, non_neg}
use mir.Syntax.{w32}
use mir.Val.{SFits}
use Rattle.laws.proofs.Differences as difference
use Rattle.laws.proofs.Signed.{Is, Held, Apart, read, held, unchanged, apart, at_least}
use Rattle.rules.specs.Width.{Width, off}
use Rattle.rules.specs.Pattern.{Pair, all_ones}
use Rattle.rules.specs.Boundaries.{upper, lower, value}
use Rattle.rules.specs.Power.{index, P}
use Rattle.rules.specs.Product.{product}
use Rattle.rules.specs.Scaled.{scaled, D}
use Rattle.theorems.proofs.Boundaries.{Finite, one_exponent, exponent_most}
use Rattle.theorems.proofs.Power.{reach}
use Rattle.theorems.proofs.Scale.{Scales, finite_scales}
use Rattle.theorems.proofs.Widths.{Sound}
use Rattle.diyfp.specs.declared.Boundaries.{Boundaries}
use Rattle.diyfp.specs.declared.CachedPower.{CachedPower}
use Rattle.diyfp.specs.declared.DiyFp.{DiyFp}
use Rattle.diyfp.specs.Pairs.{Stands, StandsIn, Shiftable, Becomes, Bounds, Near, Factor, Cached, Times}
use Rattle.powers.specs.Powers.{Served}
use Rattle.patterns.specs.Small.{Small}
use Rattle.grisu.specs.Grisu.{ScaledTo}

module _ {w : Width} {q : ℕ} (sound : Sound w q) (small : Small w) {m : Pair} (h : Finite w m) where
  facts : Scales w q m
  facts = finite_scales w q sound m h

  -- The exponent that the boundaries and the value have.
  abbrev pub E : ℕ
  E = (upper w m).exp

  -- The exponent of the power that scales them.
  abbrev pub y : ℕ
  y = get_or w.exponents (index w E) 0

  most : E ≤ all_ones w + w.S
  most = exponent_most w q sound m h

  near_difference : (a b : ℕ) {e : ℤ} → e ≡ sub_ℕ a b → a < 2 ^ 13 → b < 2 ^ 13 → Near e
  near_difference a b is above under = subst (λ (z : ℤ). mag z < 2 ^ 13) (sym is) (difference.bounded (2 ^ 13) a b (omega arith) (omega arith))

  at_E : {e : ℤ} → e ≡ sub_ℕ E (off w) → Near e
  at_E is = near_difference E (off w) is (omega (arith, most, small.sum)) (omega (arith, small.sum))

  pub upper_near : {p : DiyFp} → Stands w (upper w m) p → Near p.e
  upper_near s = at_E s.exponent

  pub lower_near : {p : DiyFp} → Stands w (lower w m) p → Near p.e
  unfolding lower
  lower_near s = at_E s.exponent

  pub value_near : {p : DiyFp} → Stands w (value w m) p → Near p.e
  value_near s = at_E (s.exponent ∙ ap (λ (x : ℕ). sub_ℕ x (off w)) (one_exponent w q sound m h))

  pub power_factor : {c : CachedPower} → Cached w E c → Factor w c.power
  power_factor c =
      let r = reach w q sound E most in
      record {
        fits = omega (arith, c.significand, (sound.entry (index w E) r.inside).fits);
        near = near_difference y w.twos c.exponent (omega (arith, r.least_x, small.sum)) (omega (arith, small.sum));
      }

  -- The upper boundary's exponent is read as it was written, and the table serves it.
  pub upper_read : {p : DiyFp} → Stands w (upper w m) p → read p.e ≡ sub_ℕ E (off w)
  upper_read s = unchanged {a = E} {b = off w} (record { is = s.exponent }) (omega (arith, most, small.sum)) ∙ s.exponent

  pub serves : {p : DiyFp} → Stands w (upper w m) p → Served w (read p.e)
  serves s = record { raised = E; exponent = upper_read s; most = most }

  -- The magnitude can be shifted until its highest bit is set.
  pub shiftable : {p : DiyFp} → Stands w m p → StandsIn w (Shiftable w w.N) p
  shiftable s =
      record {
        pair = m;
        stands = s;
        kind =
            record {
              some = h.some;
              fits = omega (arith, h.fits, pow_mono {i = w.S + 1} {j = w.N} (omega (arith, sound.deep)));
              least_exponent = omega (arith, h.least_exponent);
              most_exponent = h.most_exponent;
            };
      }

  -- The three products with the power: (hf, he) of the upper boundary, lf of the lower and wf of the value; and the power's -P.
  pub record Products (hf lf wf : ℕ) (he k : ℤ) : Type 0 where
    pub high : hf ≡ product w (upper w m).f (get_or w.significands (index w E) 0)
    pub low : lf ≡ product w (lower w m).f (get_or w.significands (index w E) 0)
    pub middle : wf ≡ product w (value w m).f (get_or w.significands (index w E) 0)
    pub exponent : Is he (E + y + w.N) (off w + w.twos)
    pub power : k ≡ neg_ℤ (P w (index w E))

  pub products : {u l v hp lp mp : DiyFp} {c : CachedPower} → Stands w (upper w m) u → Stands w (lower w m) l → Stands w (value w m) v →
      Cached w E c → Times w u c.power hp → Times w l c.power lp → Times w v c.power mp → Products hp.f lp.f mp.f hp.e c.k
  products plus minus middle cached high low mid =
      record {
        high = high.significand ∙ ap₂ (product w) plus.significand cached.significand;
        low = low.significand ∙ ap₂ (product w) minus.significand cached.significand;
        middle = mid.significand ∙ ap₂ (product w) middle.significand cached.significand;
        exponent =
            record {
              is =
                  high.exponent
                  ∙ ap₂ (λ (a b : ℤ). a +ℤ b +ℤ pos w.N) plus.exponent cached.exponent
                  ∙ ap (λ (z : ℤ). z +ℤ pos w.N) (difference.add E (off w) y w.twos)
                  ∙ difference.more (E + y) (off w + w.twos) w.N;
            };
        power = cached.decimal;
      }

  -- The same from what the calls that make the factors say.
  pub made : {p v hp lp mp : DiyFp} {b : Boundaries} {c : CachedPower} → Stands w m p → Bounds w p b → Becomes w (value w) p v →
      ((n : ℕ) → read b.plus.e ≡ sub_ℕ n (off w) → Cached w n c) → Times w b.plus c.power hp → Times w b.minus c.power lp →
      Times w v c.power mp → Products hp.f lp.f mp.f hp.e c.k
  made stands bounds values caches high low mid =
      let plus = bounds.plus _ stands in
      products plus (bounds.minus _ stands) (values _ stands) (caches _ (upper_read plus)) high low mid

  module _ {hf lf wf : ℕ} {he k : ℤ} (p : Products hf lf wf he k) where
    high_is : hf - 1 ≡ (scaled w m).H
    unfolding scaled
    high_is = ap (λ (x : ℕ). x - 1) p.high

    low_is : lf + 1 ≡ (scaled w m).L
    unfolding scaled
    low_is = ap (λ (x : ℕ). x + 1) p.low

    middle_is : wf ≡ (scaled w m).W
    unfolding scaled
    middle_is = p.middle

    room_is : hf - 1 - (lf + 1) ≡ D (scaled w m)
    unfolding D
    room_is = ap₂ (λ (x y : ℕ). x - y) high_is low_is

    -- Nothing that is taken off or added wraps.
    pub one_less : 1 ≤ hf
    one_less = omega (arith, high_is, facts.low_mid, facts.mid_high)

    pub one_more : lf + 1 < 2 ^ w.N
    one_more = omega (arith, low_is, facts.low_mid, facts.mid_high, facts.fits)

    pub ordered : lf + 1 ≤ hf - 1
    ordered = omega (arith, high_is, low_is, facts.low_mid, facts.mid_high)

    -- The product's exponent is -x.
    shift_held : Held (pos 0 -ℤ read he) (0 + (off w + w.twos)) (0 + (E + y + w.N))
    shift_held =
        let reached = (reach w q sound E most).least_x in
        let near : Apart (E + y + w.N) (off w + w.twos) = omega (arith, most, small.sum) in
        apart {a = 0} {b = 0} (record { is = refl }) (held p.exponent near).back (omega (arith, most, small.sum))

    shift_is : read (pos 0 -ℤ read he) ≡ pos (scaled w m).x
    unfolding scaled
    shift_is = at_least shift_held.back (omega (arith, (reach w q sound E most).least_x)) ∙ ap pos (omega arith)

    -- So x can be cast.
    pub shift_fits : SFits w32 (pos 0 -ℤ read he)
    shift_fits = shift_held.fits

    pub shift_natural : T (non_neg (read (pos 0 -ℤ read he)))
    shift_natural = rw shift_is tt

    pub shift_small : nat_abs (read (pos 0 -ℤ read he)) < 2 ^ 32
    shift_small = rw shift_is (omega (arith, facts.most_x, small.sum))

    power_back : read k ≡ k
    unfolding P
    power_back =
        unchanged {a = w.tens} {b = 8 * index w E} (record { is = p.power ∙ difference.minus (8 * index w E) w.tens })
        (omega (arith, small.sum, (reach w q sound E most).inside))

    -- What the pairs give is what the rules ask for.
    pub scales_to : ScaledTo w m (record { numbers = record { h = hf - 1; w = wf; delta = hf - 1 - (lf + 1); x = nat_abs (read (pos 0 -ℤ read he)) }; k = read k })
    unfolding scaled
    scales_to =
        record { high = high_is; middle = middle_is; room = room_is; shift = ap nat_abs shift_is; power = power_back ∙ p.power }
