-- From the digits of a text and its exponent to its number. Assumes nothing.
use Rattle.std.proofs.Common.{◌≡◌, ℕ, ◌+◌, ◌-◌, ◌<◌, ◌≤◌, Bool, true, false, List, ◌∷◌, Option, length, sym, refl, ap, ◌∙◌, subst, arith}
use Rattle.rules.specs.Bytes.{point}
use Rattle.rules.specs.Reading.{Unsigned, no_number, unsigned, whole_more, decimals_first, decimals_more}
use Rattle.scan.specs.declared.Decimal.{Decimal}
use Rattle.scan.specs.declared.digits.Held.{Held}
use Rattle.scan.specs.Goes.{Keeps, Leads, Reaches}
use Rattle.scan.specs.Heads.{starts, begins}
use Rattle.scan.specs.Mantissa.{mantissa}
use Rattle.scan.specs.Raises.{Power}
use Rattle.scan.specs.Scans.{Finds, Tells}
use Rattle.scan.proofs.Parts.{unsigned_passed, mantissa_passed, decimals_passed, decimals_none, no_point, point_whole, point-mantissa}

-- What an exponent and the place of the last digit that is kept make of a number.
pub found : {a r : ℕ} (n : ℕ) (t : List ℕ) (x : Decimal) → Power (λ a n. decimals_more a n t) r → ((a : ℕ) → mantissa a t ≡ a) → Keeps a x.held →
    x.place ≡ r + 100 + x.held.dropped - n → x.held.dropped ≤ 64 → n ≤ 64 → Finds (decimals_more a n t) (mantissa a t) x.negative x
found {a} {r} n t x p ends kept place few most =
    rw (ends a)
    (record {
      up = p.up;
      down = n + p.down;
      sign = refl;
      says = p.is a n;
      kept = kept;
      place = omega (arith, p.place, p.most);
      few = few;
      most = omega (arith, p.most);
      least = p.least;
    })

-- An answer tells as much of what is equal.
likewise : {u v : Unsigned} {m k : ℕ} (negative : Bool) (r : Option Decimal) → v ≡ u → k ≡ m → Tells u m negative r → Tells v k negative r
likewise {u} {v} {m} {k} negative r e f told =
    subst (λ (x : Unsigned). Tells x k negative r) (sym e) (subst (λ (x : ℕ). Tells u x negative r) (sym f) told)

-- The number of a text whose first digits end at the text u.
module _ {t u : List ℕ} {start whole : Held} (first : starts t ≡ true) (zero : Keeps 0 start) (run : Reaches t start u whole) where
  front : Leads 0 t (length t - length u) u whole
  front = run.goes.leads 0 zero

  -- No point follows.
  pub alone : (negative : Bool) (r : Option Decimal) → begins point u ≡ false →
      ((a : ℕ) → Keeps a whole → Tells (decimals_more a 0 u) (mantissa a u) negative r) → Tells (unsigned t) (mantissa 0 t) negative r
  alone negative r dot tells =
      likewise negative r (unsigned_passed front.passes first ∙ no_point front.all u run.ends dot)
      (mantissa_passed front.passes) (tells front.all front.keeps)

  -- A point follows, and behind it digits that end at the text w.
  module _ {v w : List ℕ} {all : Held} (dot : u ≡ point ∷ v) (behind : Reaches v whole w all) where
    to_point : unsigned t ≡ decimals_first front.all v
    to_point = unsigned_passed front.passes first ∙ ap (whole_more front.all) dot ∙ point_whole front.all v

    pub no_decimals : length v - length w ≡ 0 → unsigned t ≡ no_number
    no_decimals none =
        let back = behind.goes.ends in
        let here : v ≡ w = rw none at back.is in
        to_point ∙ decimals_none front.all v (rw here behind.ends)

    pub decimals : (negative : Bool) (r : Option Decimal) → 0 < length v - length w →
        ((a : ℕ) → Keeps a all → Tells (decimals_more a (length v - length w) w) (mantissa a w) negative r) →
        Tells (unsigned t) (mantissa 0 t) negative r
    decimals negative r some tells =
        let back = behind.goes.leads front.all front.keeps in
        likewise negative r (to_point ∙ decimals_passed back.passes some)
        (mantissa_passed front.passes ∙ ap (mantissa front.all) dot ∙ point-mantissa front.all v ∙ mantissa_passed back.passes) (tells back.all back.keeps)
