-- The digits: the first decimal place that passes, and the falls of the last digit. Assumes nothing.
use Rattle.std.specs.Prelude.{ℕ, zero, suc, ◌+◌, ◌-◌, ◌*◌, ◌/◌, ◌%◌, ◌^◌, Bool, true, false, ◌&&◌, ◌||◌, leb, ltb, ℤ, ◌-ℤ◌}
use Rattle.std.proofs.Math.IntN.{sub_ℕ}
use Rattle.rules.specs.Numbers.{count}
use Rattle.rules.specs.Width.{Width}
use Rattle.rules.specs.Pattern.{Pair}
use Rattle.rules.specs.Power.{P}
use Rattle.rules.specs.Scaled.{Scaled, scaled, D}

-- What a place p = up - down leaves: the digits as one number, the rest, and what the falls are measured by.
pub record Place : Type 0 where
  pub up : ℕ
  pub down : ℕ
  pub unit : ℕ
  pub digits : ℕ
  pub rest : ℕ
  pub room : ℕ
  pub distance : ℕ

-- Place p, at or above zero.
unfoldable pub above : Scaled → ℕ → Place
above b p =
    let unit = 10 ^ p * 2 ^ b.x in
    record { up = p; down = 0; unit = unit; digits = b.H / unit; rest = b.H % unit; room = D b; distance = b.H - b.W }

-- Place -n, below zero. From n = 9 on the distance is 0.
unfoldable pub under : Scaled → ℕ → Place
under b n =
    let unit = 2 ^ b.x in
    record {
      up = 0;
      down = n;
      unit = unit;
      digits = b.H * 10 ^ n / unit;
      rest = b.H * 10 ^ n % unit;
      room = D b * 10 ^ n;
      distance = elim (leb n 8) [ true ↦ (b.H - b.W) * 10 ^ n | false ↦ 0 ];
    }

-- The first of the places -n, -(n + 1), .. that passes: its rest is below the room.
unfoldable pub places_under : Scaled → ℕ → ℕ → Place
places_under b zero n = under b n
places_under b (suc fuel) n =
    elim (ltb (under b n).rest (under b n).room) [ true ↦ under b n | false ↦ places_under b fuel (suc n) ]

-- The first of the places c - 1, c - 2, .., 0 that passes, its rest at most the room, or else of those below zero.
unfoldable pub places : Scaled → ℕ → Place
places b zero = places_under b b.x 1
places b (suc p) = elim (leb (above b p).rest (above b p).room) [ true ↦ above b p | false ↦ places b p ]

-- The count of decimal digits of H / 2^x rounded down.
unfoldable pub c : Scaled → ℕ
c b = count (b.H / 2 ^ b.x)

-- The first place that passes.
unfoldable pub first : Scaled → Place
first b = places b (c b)

-- Whether the last digit falls once more, with this rest.
unfoldable pub closer : Place → ℕ → Bool
closer f rest =
    ltb rest f.distance
    && (leb f.unit (f.room - rest)
    && (ltb (rest + f.unit) f.distance || ltb (rest + f.unit - f.distance) (f.distance - rest)))

-- How often the last digit falls, at most `fuel` times; the rest grows by the unit each time.
unfoldable pub falls : Place → ℕ → ℕ → ℕ
falls f zero rest = 0
falls f (suc fuel) rest = elim (closer f rest) [ true ↦ suc (falls f fuel (rest + f.unit)) | false ↦ 0 ]

-- A decimal number: `len` digits, the number that they make, and the exponent k.
pub record Decimal : Type 0 where
  pub len : ℕ
  pub digits : ℕ
  pub k : ℤ

-- A magnitude's decimal. Its exponent is p - P. A last digit is at most 9, so that it falls at most 9 times.
unfoldable pub decimal : Width → Pair → Decimal
decimal w m =
    let b = scaled w m in
    let f = first b in
    record {
      len = count f.digits;
      digits = f.digits - falls f 10 f.rest;
      k = sub_ℕ f.up f.down -ℤ P w b.at;
    }
