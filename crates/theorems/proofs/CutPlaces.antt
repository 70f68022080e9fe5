-- Where the crate's layout has its cut. It stands alone, so that a wrong cut is refused by the theorems that rest on it. Assumes nothing.
use Prim.Native.Nat.{ℕ}

-- The most digits that the crate keeps behind the point: its MAX_DECIMAL_PLACES.
abbrev pub places : ℕ
places = 324
