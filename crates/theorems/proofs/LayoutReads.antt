-- What a layout says by exact reading: the digits' number times 10^k, as a fraction. Assumes nothing.
use mathlib.Core.List.{List, [], ◌∷◌, ◌++◌, append-nil}
use mathlib.Core.Path.{◌≡◌, refl, sym, ap, ◌∙◌, subst}
use Prim.Native.Nat.{ℕ, zero, suc, ◌+◌, ◌-◌, ◌*◌, ◌/◌, ◌%◌, ◌^◌, ◌≤◌, ◌<◌}
use native.Mathlib.Nat.{div-add-mod', div-lt_iff_lt-mul, eq_of_mul-eq-mul_right, lt_of_lt_of_le, mod-eq_of_lt, mul-pos, pow-le-pow_right, pow-succ', zero-lt-suc}
use native.Mathlib.Omega.{arith}
use lib.Dec.{eqb, eqb→eq, T_not}
use lib.IntN.{ℤ, pos, negsuc, sub_ℕ}
use lib.ListN.{length, take, drop, length-replicate}
use lib.Pow.{pow-add}
use Rattle.laws.proofs.Branches.{either}
use Rattle.laws.proofs.Differences as difference
use Rattle.laws.proofs.Powers.{ten_pos}
use Rattle.rules.specs.Bytes.{bytes, byte0, point, letter_e}
use Rattle.rules.specs.Numbers.{numeral}
use Rattle.rules.specs.Layout.{zeros, scientific, exponent, layout}
use Rattle.rules.specs.Reading.{over, is_digit, extended, unsigned, whole_more, decimals_more, exponent_sign}
use Rattle.theorems.proofs.Counting.{length-numeral}
use Rattle.theorems.proofs.LaidOut.{Laid, whole, inner, small, large, minute, laid}
use Rattle.theorems.proofs.Runs.{drop-numeral, take-numeral, zeros_before, unsigned-numeral, whole_zeros, point-numeral, whole_e, decimals_e, exponent_up, exponent_down}

-- The text t says v * 10^(up - down): a fraction n / d that equals it.
pub record Says (t : List ℕ) (v up down : ℕ) : Type 0 where
  pub n : ℕ
  pub d : ℕ
  pub is : unsigned t ≡ over n d
  pub positive : 0 < d
  pub equal : n * 10 ^ down ≡ v * 10 ^ up * d

-- The end of a text behind the point.
decimals_end : (a n : ℕ) → decimals_more a n [] ≡ over a (10 ^ n)
unfolding decimals_more
decimals_end a n = refl

-- A numeral behind the point, to the end.
point_end : (a l v : ℕ) → whole_more a (point ∷ numeral (suc l) v) ≡ over (a * 10 ^ suc l + v % 10 ^ suc l) (10 ^ suc l)
point_end a l v =
    ap (λ (bs : List ℕ). whole_more a (point ∷ bs)) (sym (append-nil (numeral (suc l) v))) ∙ point-numeral a l v [] ∙ decimals_end _ _

-- Rule 1.
whole_says : (l v n : ℕ) → v < 10 ^ suc l → Says (numeral (suc l) v ++ (zeros n ++ bytes ".0")) v n 0
unfolding bytes numeral
whole_says l v n h =
    record {
      n = v * 10 ^ n * 10 ^ 1 + 0 % 10 ^ 1;
      d = 10 ^ 1;
      is = unsigned-numeral l v (zeros n ++ bytes ".0") h ∙ whole_zeros n v (bytes ".0") ∙ point_end (v * 10 ^ n) 0 0;
      positive = ten_pos 1;
      equal = omega arith;
    }

-- Rule 2.
inner_says : (p r v : ℕ) → v < 10 ^ (suc p + suc r) →
    Says (take (suc p) (numeral (suc p + suc r) v) ++ (point ∷ drop (suc p) (numeral (suc p + suc r) v))) v 0 (suc r)
inner_says p r v h = record { n = v; d = 10 ^ suc r; is = steps; positive = ten_pos (suc r); equal = omega arith }
  where
    top : v / 10 ^ suc r < 10 ^ suc p
    top = (div-lt_iff_lt-mul (ten_pos (suc r))).1 (rw pow-add at h)

    steps : unsigned (take (suc p) (numeral (suc p + suc r) v) ++ (point ∷ drop (suc p) (numeral (suc p + suc r) v))) ≡ over v (10 ^ suc r)
    steps =
        rw (take-numeral, drop-numeral)
        (unsigned-numeral p (v / 10 ^ suc r) (point ∷ numeral (suc r) v) top
        ∙ point_end (v / 10 ^ suc r) r v
        ∙ ap (λ (x : ℕ). over x (10 ^ suc r)) (div-add-mod' v (10 ^ suc r)))

-- A leading zero.
zero_first : (bs : List ℕ) → unsigned (byte0 ∷ bs) ≡ whole_more 0 bs
unfolding unsigned is_digit extended
zero_first bs = refl

-- Rule 3.
small_says : (z l v : ℕ) → v < 10 ^ suc l → Says (byte0 ∷ point ∷ (zeros z ++ numeral (suc l) v)) v 0 (z + suc l)
small_says z l v h = record { n = v; d = 10 ^ (z + suc l); is = steps; positive = ten_pos (z + suc l); equal = omega arith }
  where
    behind : (n : ℕ) → v < 10 ^ n → 0 < n → whole_more 0 (point ∷ numeral n v) ≡ over v (10 ^ n)
    behind zero fits some = absurd (omega arith)
    behind (suc n) fits some = point_end 0 n v ∙ ap (λ (x : ℕ). over x (10 ^ suc n)) (omega (arith, mod-eq_of_lt fits))

    steps : unsigned (byte0 ∷ point ∷ (zeros z ++ numeral (suc l) v)) ≡ over v (10 ^ (z + suc l))
    steps =
        zero_first (point ∷ (zeros z ++ numeral (suc l) v))
        ∙ rw (zeros_before z (suc l) v h)
        (behind (z + suc l) (lt_of_lt_of_le h (pow-le-pow_right {n = 10} (zero-lt-suc 9) (omega arith))) (omega arith))

-- Rules 5 and 6, up to the exponent.
scientific_reads : (l v : ℕ) (e : ℤ) → v < 10 ^ suc l → unsigned (scientific (numeral (suc l) v) e) ≡ exponent_sign v l (exponent e)
unfolding scientific
scientific_reads zero v e h =
    either (λ (t : List ℕ). unsigned t ≡ exponent_sign v 0 (exponent e)) (eqb (length (numeral 1 v)) 1)
    (λ t. unsigned-numeral 0 v (letter_e ∷ exponent e) h ∙ whole_e v (exponent e))
    (λ t. absurd (T_not (eqb (length (numeral 1 v)) 1) t (rw (length-numeral 1 v) tt)))
scientific_reads (suc l) v e h =
    either (λ (t : List ℕ). unsigned t ≡ exponent_sign v (suc l) (exponent e)) (eqb (length ds) 1)
    (λ t. absurd (omega (arith, length-numeral (suc (suc l)) v, eqb→eq (length ds) 1 t)))
    (λ t. subst (λ (n : ℕ). unsigned (spread (numeral n v)) ≡ exponent_sign v (suc l) (exponent e)) one_more steps)
  where
    ds : List ℕ
    ds = numeral (suc (suc l)) v

    one_more : 1 + suc l ≡ suc (suc l)
    one_more = omega arith

    spread : List ℕ → List ℕ
    spread bs = take 1 bs ++ (point ∷ (drop 1 bs ++ (letter_e ∷ exponent e)))

    steps : unsigned (spread (numeral (1 + suc l) v)) ≡ exponent_sign v (suc l) (exponent e)
    steps =
        rw (take-numeral, drop-numeral)
        (unsigned-numeral 0 (v / 10 ^ suc l) (point ∷ (numeral (suc l) v ++ (letter_e ∷ exponent e)))
        ((div-lt_iff_lt-mul (ten_pos (suc l))).1 (rw (← pow-succ' 10 (suc l)) h))
        ∙ point-numeral (v / 10 ^ suc l) l v (letter_e ∷ exponent e)
        ∙ decimals_e _ (suc l) (exponent e)
        ∙ ap (λ (x : ℕ). exponent_sign x (suc l) (exponent e)) (div-add-mod' v (10 ^ suc l)))

-- The same number with another power of ten on both sides.
pub says_moved : {t : List ℕ} {v a b : ℕ} (up down : ℕ) → a + down ≡ up + b → Says t v a b → Says t v up down
says_moved {t} {v} {a} {b} up down e s =
    record {
      n = s.n;
      d = s.d;
      is = s.is;
      positive = s.positive;
      equal =
          let p : 10 ^ a * 10 ^ down ≡ 10 ^ up * 10 ^ b = sym (pow-add 10 a down) ∙ ap (λ (x : ℕ). 10 ^ x) e ∙ pow-add 10 up b in
          eq_of_mul-eq-mul_right (10 ^ b) (ten_pos b) (s.n * 10 ^ down) (v * 10 ^ up * s.d)
          (omega (arith, ap (λ (x : ℕ). x * 10 ^ down) s.equal, ap (λ (x : ℕ). v * s.d * x) p));
    }

pub length-zeros : (n : ℕ) → length (zeros n) ≡ n
unfolding zeros
length-zeros n = length-replicate n byte0

-- The layout of at most 21 digits says their number times 10^k, for every k up to 9,000 with kk from -324 on.
pub layout_says : (l v up down : ℕ) → v < 10 ^ suc l → suc l ≤ 21 → up ≤ down + 9000 → down ≤ up + suc l + 324 →
    Says (layout (numeral (suc l) v) (sub_ℕ up down)) v up down
layout_says l v up down h short most near = by_rule_lem (laid ds (sub_ℕ up down) (rw len (omega arith)) (rw len short))
  where
    ds : List ℕ
    ds = numeral (suc l) v

    len : length ds ≡ suc l
    len = length-numeral (suc l) v

    from_zero : (r : ℕ) → sub_ℕ up down ≡ sub_ℕ 0 r → 0 + down ≡ up + r
    from_zero r e = omega (arith, difference.crossed up down 0 r e)

    upwards : (n : ℕ) → sub_ℕ up down ≡ pos n → n + down ≡ up
    upwards n e = omega (arith, difference.crossed up down n 0 (e ∙ difference.is_pos n n 0 (omega arith)))

    by_rule_lem : {t : List ℕ} → Laid ds (sub_ℕ up down) t → Says t v up down
    by_rule_lem (whole n e fits is) = rw is (says_moved up down (omega (arith, upwards n e)) (whole_says l v n h))
    by_rule_lem (inner zero r e some sum more few is) = absurd (omega arith)
    by_rule_lem (inner (suc p) zero e some sum more few is) = absurd (omega arith)
    by_rule_lem (inner (suc p) (suc r) e some sum more few is) =
        let split : suc l ≡ suc p + suc r = omega (arith, len, sum) in
        rw (is, split)
        (says_moved up down (from_zero (suc r) e) (inner_says p r v (rw (← split) h)))
    by_rule_lem (small z e few is) =
        rw is
        (says_moved up down (rw (← len) (from_zero (z + length ds) e)) (small_says z l v h))
    by_rule_lem (large n e far is) =
        let x : length ds + n - 1 ≡ l + n = omega (arith, len) in
        rw (is, x)
        (says_moved {a = n} {b = 0} up down (omega (arith, upwards n e))
        (record {
          n = v * 10 ^ (l + n);
          d = 10 ^ l;
          is = scientific_reads l v (pos (l + n)) h ∙ exponent_up v l (l + n) (omega (arith, upwards n e));
          positive = ten_pos l;
          equal = rw (pow-add 10 l n) (omega arith);
        }))
    by_rule_lem (minute z e far is) =
        rw is
        (says_moved {a = 0} {b = suc z + l} up down (omega (arith, from_zero (z + length ds) e, len))
        (record {
          n = v;
          d = 10 ^ l * 10 ^ suc z;
          is = scientific_reads l v (negsuc z) h ∙ exponent_down v l z (omega (arith, from_zero (z + length ds) e, len));
          positive = mul-pos (ten_pos l) (ten_pos (suc z));
          equal = rw (pow-add 10 (suc z) l) (omega arith);
        }))
