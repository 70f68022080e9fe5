-- What the arithmetic of decimal places counts, splits and measures. Assumes nothing.
use Rattle.std.specs.Prelude.{◌≡◌, true, false, ℕ, min, ◌*◌, ◌/◌, ◌%◌, ◌^◌, leb}
use Rattle.rules.specs.Numbers.{count}
use Rattle.rules.specs.Digits.{Place}

-- How many decimal digits n has, but no more than 9.
abbrev pub count_to_nine : ℕ → ℕ
count_to_nine n = min (count n) 9

-- A place of this unit, room and distance, which are all that the falls of its last digit go by.
abbrev pub measure : ℕ → ℕ → ℕ → Place
measure unit room distance =
    record { up = 0; down = 0; unit = unit; digits = 0; rest = 0; room = room; distance = distance }

-- A number without its last k digits, and those.
pub record SplitAt (p k front back : ℕ) : Type 0 where
  pub front_is : front ≡ p / 10 ^ k
  pub back_is : back ≡ p % 10 ^ k

-- The distance of the value at place -n; from n = 9 on it is 0.
unfoldable pub distance_under : ℕ → ℕ → ℕ
distance_under gap n = elim (leb n 8) as (λ _. ℕ) [ true ↦ gap * 10 ^ n | false ↦ 0 ]
