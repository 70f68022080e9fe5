-- What printing asks of a width beyond its laws: digits and exponents that 25 bytes have room for. Assumes nothing.
use Prim.Native.Nat.{ℕ, ◌+◌, ◌*◌, ◌/◌, ◌^◌, ◌≤◌}
use lib.Dec.{lit≤, lit<}
use lib.ListN.{length}
use Rattle.rules.specs.Tables.{significands32, significands64}
use Rattle.rules.specs.Width.{Width, w32, w64, off}
use Rattle.theorems.proofs.Readable.{Readable, readable32, readable64}
use Rattle.theorems.proofs.Widths.{Sound, sound32, sound64, w16, sound16}

-- A width whose texts have at most 25 bytes.
pub record Printable (w : Width) (q : ℕ) : Type 0 where
  pub sound : Sound w q
  pub readable : Readable w
  -- at most 17 digits
  pub few : q ≤ 16
  -- exponents of at most three digits
  pub low : w.tens ≤ 348
  pub high : length w.significands ≤ 87
  -- the smallest magnitude asks for no power beyond 10^324
  pub least : 10 ^ (w.tens + 7) * 2 ^ (off w + 3) ≤ 10 ^ (w.tens + 331) * 2 ^ (w.N + 2)
  pub level : 8 * ((w.tens + 331) / 8) ≤ w.tens + 324

pub printable32 : Printable w32 8
unfolding w32 off significands32
printable32 =
    record { sound = sound32; readable = readable32; few = lit≤ tt; low = lit≤ tt; high = lit≤ tt; least = lit≤ tt; level = lit≤ tt }

pub printable64 : Printable w64 16
unfolding w64 off significands64
printable64 =
    record { sound = sound64; readable = readable64; few = lit≤ tt; low = lit≤ tt; high = lit≤ tt; least = lit≤ tt; level = lit≤ tt }

pub printable16 : Printable w16 4
unfolding w16 off significands32
printable16 =
    record {
      sound = sound16;
      readable = record { digits = lit< tt; field = lit< tt };
      few = lit≤ tt;
      low = lit≤ tt;
      high = lit≤ tt;
      least = lit≤ tt;
      level = lit≤ tt;
    }
