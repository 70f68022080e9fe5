-- Idle programs that the contracts rule out: each has an input at which its answer is not allowed. Assumes nothing.
use mathlib.Core.List.{List, ◌++◌}
use mathlib.Core.Path.{◌≡◌, refl, ap, ◌∙◌}
use Prim.Native.Nat.{ℕ}
use native.Mathlib.Omega.{arith}
use lib.ListN.{length, get_or, drop, replicate}
use Rattle.rules.specs.Bytes.{bytes}
use Rattle.rules.specs.Numbers.{count_up_to, count, numeral, plain}
use Rattle.rules.specs.Tables.{raised, significands32, exponents32, significands64, exponents64}
use Rattle.rules.specs.Width.{w32, w64, off}
use Rattle.rules.specs.Pattern.{negative, biased, significand, all_ones, special, magnitude}
use Rattle.rules.specs.Boundaries.{shifted, upper, below, lower, value}
use Rattle.rules.specs.Power.{least_ten, j_raised, j, k, index, P}
use Rattle.rules.specs.Product.{product}
use Rattle.rules.specs.Scaled.{scaled, D}
use Rattle.rules.specs.Digits.{above, under, places_under, places, c, first, closer, falls, decimal}
use Rattle.rules.specs.Layout.{zeros, exponent, scientific, by_rule, layout}
use Rattle.rules.specs.Text.{shown, signed, text}
use Rattle.rules.specs.Answer.{every, finite_only, refuses, number, Answer, answering, leaving, answer, after}
use Rattle.dtoa.specs.Meets.{Meets}
use Rattle.std.specs.Prelude.{Ok, Err}
use Rattle.dtoa.specs.declared.Refusal.TheVariants.{TooShort, NotFinite}

-- A buffer of 25 bytes 42.
abbrev pub lent : List ℕ
lent = replicate 25 42

-- 2.71828 in binary64, and its text.
abbrev pub e64 : ℕ
e64 = 0x4005bf0995aaf790

e64_text : text w64 e64 ≡ bytes "2.71828"
unfolding bytes count_up_to count numeral plain raised significands64 exponents64 w64 off negative biased significand all_ones special magnitude shifted upper below lower value least_ten j_raised j k index P product scaled D above under places_under places c first closer falls decimal zeros exponent scientific by_rule layout shown signed text
e64_text = refl

-- What a call has to answer there.
has_to_answer : answer every w64 e64 (length lent) ≡ record { number = 0; len = 7 }
unfolding answering answer number refuses bytes
has_to_answer = rw e64_text

has_to_leave : after every w64 e64 lent ≡ bytes "2.71828" ++ drop 7 lent
unfolding leaving after number refuses bytes
has_to_leave = rw e64_text

-- One that refuses everything, as too short or as not finite.
pub not_all_refused : {last : List ℕ} → Meets every w64 e64 lent (Err TooShort) last → ⊥
not_all_refused m = omega (arith, ap (λ (a : Answer). a.number) (m.answers ∙ has_to_answer))

pub not_all_not_finite : {last : List ℕ} → Meets every w64 e64 lent (Err NotFinite) last → ⊥
not_all_not_finite m = omega (arith, ap (λ (a : Answer). a.number) (m.answers ∙ has_to_answer))

-- One that always prints `0.0`.
pub not_always_zero : Meets every w64 e64 lent (Ok 3) (bytes "0.0" ++ drop 3 lent) → ⊥
not_always_zero m = omega (arith, ap (λ (a : Answer). a.len) (m.answers ∙ has_to_answer))

-- One that touches no byte, whatever length it tells.
pub not_untouched : (n : ℕ) → Meets every w64 e64 lent (Ok n) lent → ⊥
unfolding bytes
not_untouched n m = omega (arith, ap (λ (l : List ℕ). get_or l 0 0) (m.bytes ∙ has_to_leave))

-- One that is right at the first digit and guesses a later one.
pub not_guessed : Meets every w64 e64 lent (Ok 7) (bytes "2.71829" ++ drop 7 lent) → ⊥
unfolding bytes
not_guessed m = omega (arith, ap (λ (l : List ℕ). get_or l 6 0) (m.bytes ∙ has_to_leave))

-- One that tells a false length, with every byte right.
pub not_false_length : (n : ℕ) → (n ≡ 7 → ⊥) → Meets every w64 e64 lent (Ok n) (bytes "2.71828" ++ drop 7 lent) → ⊥
not_false_length n other m = other (ap (λ (a : Answer). a.len) (m.answers ∙ has_to_answer))

-- 0.1 in binary32, and its text.
abbrev pub tenth32 : ℕ
tenth32 = 0x3dcccccd

tenth32_text : text w32 tenth32 ≡ bytes "0.1"
unfolding bytes count_up_to count numeral plain raised significands32 exponents32 w32 off negative biased significand all_ones special magnitude shifted upper below lower value least_ten j_raised j k index P product scaled D above under places_under places c first closer falls decimal zeros exponent scientific by_rule layout shown signed text
tenth32_text = refl

tenth32_answer : answer every w32 tenth32 (length lent) ≡ record { number = 0; len = 3 }
unfolding answering answer number refuses bytes
tenth32_answer = rw tenth32_text

-- One that prints 32 bits by widening them to 64.
pub not_widened : Meets every w32 tenth32 lent (Ok 19) (bytes "0.10000000149011612" ++ drop 19 lent) → ⊥
not_widened m = omega (arith, ap (λ (a : Answer). a.len) (m.answers ∙ tenth32_answer))

-- One that lets an infinity through the entry for finite patterns, or refuses it before the buffer is looked at.
pub not_let_through : {last : List ℕ} (n : ℕ) → Meets finite_only w64 0x7ff0000000000000 lent (Ok n) last → ⊥
unfolding answering answer number refuses special biased all_ones w64
not_let_through n m = omega (arith, ap (λ (a : Answer). a.number) m.answers)

pub not_looked_at_second : {last : List ℕ} → Meets finite_only w64 0x7ff0000000000000 (replicate 24 42) (Err NotFinite) last → ⊥
unfolding answering answer number refuses special biased all_ones w64
not_looked_at_second m = omega (arith, ap (λ (a : Answer). a.number) m.answers)
