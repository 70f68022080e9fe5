-- Wrong programs for a row that the contract rules out: each has an input at which its answer is not allowed. Assumes nothing.
use mathlib.Core.List.{List, [], ◌∷◌, ◌++◌}
use mathlib.Core.Path.{◌≡◌, refl, ap, ◌∙◌}
use Prim.Native.Nat.{ℕ}
use native.Mathlib.Omega.{arith}
use lib.ListN.{length, get_or, drop, replicate}
use Rattle.rules.specs.Bytes.{bytes}
use Rattle.rules.specs.Numbers.{count_up_to, count, numeral, plain}
use Rattle.rules.specs.Tables.{raised, significands32, exponents32}
use Rattle.rules.specs.Width.{w32, off}
use Rattle.rules.specs.Pattern.{negative, biased, significand, all_ones, special, magnitude}
use Rattle.rules.specs.Boundaries.{shifted, upper, below, lower, value}
use Rattle.rules.specs.Power.{least_ten, j_raised, j, k, index, P}
use Rattle.rules.specs.Product.{product}
use Rattle.rules.specs.Scaled.{scaled, D}
use Rattle.rules.specs.Digits.{above, under, places_under, places, c, first, closer, falls, decimal}
use Rattle.rules.specs.Layout.{zeros, exponent, scientific, by_rule, layout}
use Rattle.rules.specs.Text.{shown, signed, text}
use Rattle.rules.specs.Answer.{Answer, answering, leaving}
use Rattle.rules.specs.Row.{spaced, row, row_number, row_answer, row_after}
use Rattle.dtoa.specs.MeetsRow.{MeetsRow}
use Rattle.std.specs.Prelude.{Ok, Err}
use Rattle.dtoa.specs.declared.RowRefusal.TheVariants.{TooMany, TooShort}

-- Two numbers of different lengths: 1.0 and -0.5. A buffer of 52 bytes 42 has just the room for them.
abbrev pub pair : List ℕ
pair = 0x3f800000 ∷ 0xbf000000 ∷ []

abbrev pub lent : List ℕ
lent = replicate 52 42

pair_row : row w32 pair ≡ bytes "1.0 -0.5"
unfolding spaced row bytes count_up_to count numeral plain raised significands32 exponents32 w32 off negative biased significand all_ones special magnitude shifted upper below lower value least_ten j_raised j k index P product scaled D above under places_under places c first closer falls decimal zeros exponent scientific by_rule layout shown signed text
pair_row = refl

-- What a call has to answer and to leave there.
has_to_answer : row_answer w32 pair (length lent) ≡ record { number = 0; len = 8 }
unfolding answering row_answer row_number bytes
has_to_answer = rw pair_row

has_to_leave : row_after w32 pair lent ≡ bytes "1.0 -0.5" ++ drop 8 lent
unfolding leaving row_after row_number bytes
has_to_leave = rw pair_row

module _ {last : List ℕ} where
  -- One that refuses everything.
  pub not_all_too_many : MeetsRow w32 pair lent (Err TooMany) last → ⊥
  not_all_too_many m = omega (arith, ap (λ (a : Answer). a.number) (m.answers ∙ has_to_answer))

  pub not_all_too_short : MeetsRow w32 pair lent (Err TooShort) last → ⊥
  not_all_too_short m = omega (arith, ap (λ (a : Answer). a.number) (m.answers ∙ has_to_answer))

  -- One that puts a space behind the last text and counts it, one that drops the last text, or any other with a false length.
  pub not_another_length : (n : ℕ) → (n ≡ 8 → ⊥) → MeetsRow w32 pair lent (Ok n) last → ⊥
  not_another_length n other m = other (ap (λ (a : Answer). a.len) (m.answers ∙ has_to_answer))

  -- One that takes 4,097 patterns; one that refuses 4,096; one that looks at the room first.
  pub not_one_more : (n : ℕ) → MeetsRow w32 (replicate 4097 0) (replicate 106522 42) (Ok n) last → ⊥
  unfolding answering row_answer row_number
  not_one_more n m = omega (arith, ap (λ (a : Answer). a.number) m.answers)

  pub not_one_less : MeetsRow w32 (replicate 4096 0) (replicate 106496 42) (Err TooMany) last → ⊥
  unfolding answering row_answer row_number
  not_one_less m = omega (arith, ap (λ (a : Answer). a.number) m.answers)

  pub not_room_first : MeetsRow w32 (replicate 4097 0) [] (Err TooShort) last → ⊥
  unfolding answering row_answer row_number
  not_room_first m = omega (arith, ap (λ (a : Answer). a.number) m.answers)

-- One that puts the texts in another order.
pub not_exchanged : MeetsRow w32 pair lent (Ok 8) (bytes "-0.5 1.0" ++ drop 8 lent) → ⊥
unfolding bytes
not_exchanged m = omega (arith, ap (λ (l : List ℕ). get_or l 0 0) (m.bytes ∙ has_to_leave))

-- One that puts a space behind the last text and does not count it.
pub not_a_byte_behind : MeetsRow w32 pair lent (Ok 8) (bytes "1.0 -0.5 " ++ drop 9 lent) → ⊥
unfolding bytes
not_a_byte_behind m = omega (arith, ap (λ (l : List ℕ). get_or l 8 0) (m.bytes ∙ has_to_leave))
