-- Several numbers side by side in one word. Assumes nothing.
use Rattle.std.specs.Prelude.{ℕ, ◌+◌, ◌*◌, ◌^◌, ◌<◌, List, [], ◌∷◌, get_or}

-- Every number of a list is below n.
abbrev pub Below : ℕ → List ℕ → Type 0
Below n xs = (i : ℕ) → get_or xs i 0 < n

-- The word whose lanes, of w bits each and the first the lowest, hold the numbers of a list.
unfoldable pub word : ℕ → List ℕ → ℕ
word w [] = 0
word w (x ∷ xs) = word w xs * 2 ^ w + x

-- Each two neighbours as one number: the first times c, and the second.
unfoldable pub paired : ℕ → List ℕ → List ℕ
paired c [] = []
paired c (x ∷ []) = []
paired c (x ∷ y ∷ zs) = (x * c + y) ∷ paired c zs
