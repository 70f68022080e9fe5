-- What the constants of a kind of patterns are, in the rules' terms, and what the code asks of them. Assumes nothing.
use lib.Dec.{lit≤, lit<}
use Rattle.std.specs.Prelude.{ℕ, ◌+◌, ◌*◌, ◌^◌, ◌≤◌, ◌<◌, ◌≡◌, refl}
use Rattle.rules.specs.Width.{Width, w32, w64}
use Rattle.rules.specs.Pattern.{all_ones}

-- The constants are those of the width w, and a word of 64 bits has room for its patterns and for its pairs' significands.
pub record Numbers (w : Width) (size fraction bias ones pair : ℕ) : Type 0 where
  pub size_is : size ≡ w.bits
  pub fraction_is : fraction ≡ w.S
  pub bias_is : bias ≡ w.bias
  pub ones_is : ones ≡ all_ones w
  pub pair_is : pair ≡ w.N
  pub dropped : w.dropped + 32 ≡ w.N
  pub some : 0 < w.S
  pub few : w.S ≤ 52
  pub field : w.S + 1 < w.bits
  pub word : w.bits ≤ 64
  pub product : w.N ≤ 64
  pub unit : w.bias + w.S ≤ 1075
  pub most : all_ones w ≤ 2047
  pub finite : 2 ≤ all_ones w
  pub infinite : all_ones w * 2 ^ w.S < 2 ^ 63

-- Binary32's ..
pub numbers32 : Numbers w32 32 23 127 255 32
unfolding w32 all_ones
numbers32 =
    record {
      size_is = refl;
      fraction_is = refl;
      bias_is = refl;
      ones_is = refl;
      pair_is = refl;
      dropped = refl;
      some = lit< tt;
      few = lit≤ tt;
      field = lit< tt;
      word = lit≤ tt;
      product = lit≤ tt;
      unit = lit≤ tt;
      most = lit≤ tt;
      finite = lit≤ tt;
      infinite = lit< tt;
    }

-- .. and binary64's.
pub numbers64 : Numbers w64 64 52 1023 2047 64
unfolding w64 all_ones
numbers64 =
    record {
      size_is = refl;
      fraction_is = refl;
      bias_is = refl;
      ones_is = refl;
      pair_is = refl;
      dropped = refl;
      some = lit< tt;
      few = lit≤ tt;
      field = lit< tt;
      word = lit≤ tt;
      product = lit≤ tt;
      unit = lit≤ tt;
      most = lit≤ tt;
      finite = lit≤ tt;
      infinite = lit< tt;
    }
