-- Texts as lists of bytes. A byte is a number, and a quoted text stands for the numbers of its characters. Assumes nothing.
use Rattle.std.specs.Prelude.{ℕ, List, [], ◌∷◌}
use Prim.Native.Char.{code}
use Prim.Native.String as Quoted
use Prim.Native.String.{String}

-- The bytes of a quoted text.
unfoldable pub bytes : String → List ℕ
bytes Quoted.[] = []
bytes (Quoted.◌∷◌ c s) = code c ∷ bytes s

-- The byte of the digit `0`; a digit d is the byte `byte0 + d`.
abbrev pub byte0 : ℕ
byte0 = 48

-- The byte of `.`.
abbrev pub point : ℕ
point = 46

-- The byte of `-`.
abbrev pub minus : ℕ
minus = 45

-- The byte of `e`.
abbrev pub letter_e : ℕ
letter_e = 101

-- The byte of a space.
abbrev pub space : ℕ
space = 32
