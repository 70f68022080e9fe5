-- What digit generation asks and leaves in a buffer. Assumes nothing.
use Rattle.std.specs.Prelude.{◌≡◌, List, ℕ, suc, ◌+◌, ◌-◌, ◌*◌, ◌/◌, ◌%◌, ◌^◌, ◌≤◌, ◌<◌, ℤ}
use Rattle.std.proofs.Math.IntN.{sub_ℕ}
use Rattle.laws.specs.Puts.{Puts}
use Rattle.rules.specs.Numbers.{count, numeral}
use Rattle.rules.specs.Scaled.{Scaled}
use Rattle.rules.specs.Digits.{Place, places, places_under, first, falls}

-- The scaled numbers with H = h, W = w, D = delta and this x.
abbrev pub given : ℕ → ℕ → ℕ → ℕ → Scaled
given h w delta x = record { H = h; L = h - delta; W = w; x = x; at = 0 }

-- What digit generation asks of its numbers, and of the room in the buffer.
pub record Ready (h w delta x room : ℕ) : Type 0 where
  pub some : 0 < delta
  pub less : delta < h
  pub low : h ≤ w + delta
  pub high : w ≤ h
  pub whole : 2 ^ x ≤ h
  pub short : h < 10 ^ 9 * 2 ^ x
  pub shift : x ≤ 60
  pub nine : 9 ≤ room
  pub few : h < 10 ^ (room - 1) * delta

-- What the places at and above zero ask of the numbers, and of the room in the buffer.
pub record ReadyAbove (h delta x room : ℕ) : Type 0 where
  pub less : delta < h
  pub short : h < 10 ^ 9 * 2 ^ x
  pub shift : x ≤ 60
  pub nine : 9 ≤ room

-- The places from the highest down to k were tried and those before k failed: `len` digits stand from the buffer's start on.
pub record TriedAbove (h delta x k len rest : ℕ) (old new : List ℕ) : Type 0 where
  pub sum : len + k ≡ count (h / 2 ^ x)
  pub rest_is : rest ≡ h % (10 ^ k * 2 ^ x)
  pub text : Puts (numeral len (h / (10 ^ k * 2 ^ x))) old 0 new len
  pub onward : (w : ℕ) → first (given h w delta x) ≡ places (given h w delta x) (suc k)

-- The last place tried at or above zero: it passes, or it is place 0 and fails too.
pub record EndedAbove (h delta x k len rest : ℕ) (old new : List ℕ) : Type 0 where
  pub tried : TriedAbove h delta x k len rest old new
  pub failed : delta < rest → k ≡ 0

-- What the places below zero ask of the numbers, of the digits that stand, and of the room in the buffer.
pub record ReadyUnder (h delta x len room : ℕ) : Type 0 where
  pub some : 0 < delta
  pub fails : delta ≤ h % 2 ^ x
  pub whole : 2 ^ x ≤ h
  pub shift : x ≤ 60
  pub stand : len ≡ count (h / 2 ^ x)
  pub nine : 9 ≤ room
  pub few : h < 10 ^ (room - 1) * delta

-- The places below zero were tried down to -n and those before it failed: n more digits stand behind the first `len`.
pub record TriedUnder (h delta x len n next rest room : ℕ) (old new : List ℕ) : Type 0 where
  pub near : n ≤ x
  pub rest_is : rest ≡ h * 10 ^ n % 2 ^ x
  pub room_is : room ≡ delta * 10 ^ n
  pub text : Puts (numeral n (h * 10 ^ n / 2 ^ x)) old len new next
  pub onward : (w : ℕ) → places_under (given h w delta x) (suc x) 0 ≡ places_under (given h w delta x) (suc x - n) n

-- The first place below zero that passes.
pub record EndedUnder (h delta x len n next rest room : ℕ) (old new : List ℕ) : Type 0 where
  pub tried : TriedUnder h delta x len n next rest room old new
  pub passes : rest < room

-- A place f: its digits stand from the buffer's start on, and these are its numbers.
pub record Found (f : Place) (len : ℕ) (place : ℤ) (unit room distance rest : ℕ) (old new : List ℕ) : Type 0 where
  pub len_is : len ≡ count f.digits
  pub place_is : place ≡ sub_ℕ f.up f.down
  pub unit_is : unit ≡ f.unit
  pub room_is : room ≡ f.room
  pub distance_is : distance ≡ f.distance
  pub rest_is : rest ≡ f.rest
  pub text : Puts (numeral len f.digits) old 0 new len

-- A place f: its digits, after their falls, stand from the buffer's start on.
pub record Generated (f : Place) (len : ℕ) (place : ℤ) (old new : List ℕ) : Type 0 where
  pub len_is : len ≡ count f.digits
  pub place_is : place ≡ sub_ℕ f.up f.down
  pub text : Puts (numeral len (f.digits - falls f 10 f.rest)) old 0 new len
