-- Numbers in decimal digits.
use Rattle.std.proofs.Common.{◌≡◌, ◌<◌, ◌^◌, ℕ, List, length, Bool, true, false, nat_lt, ◌&&◌, if◌then◌else◌, Option, Some, None, Result, Ok, Err, sym, refl, arith}
use Rattle.std.specs.Result.{OkIff, result_ok}
use Rattle.std.proofs.lemmas.Bool.{ltb-true, lt-ltb}
use Rattle.std.specs.Str.{all_ascii_digits}
use Rattle.std.specs.Str.Parse.{digits_value}
use Rattle.std.proofs.lemmas.Str.Parse.{IsNumeralModel, numerals_by_value, tells_all_ascii_digits}
use Rattle.wl_words.specs.Values.{number_of}

-- texts of decimal digits, and their values
pub digits : IsNumeralModel (λ ds. all_ascii_digits ds ≡ true) (digits_value 10)
digits = numerals_by_value _ tells_all_ascii_digits

-- the number, if the three tests hold
abbrev pick : Bool → Bool → ℕ → ℕ → Option ℕ
pick some decimal value limit = if some && decimal && nat_lt value limit then Some value else None

picks : (some decimal : Bool) (value limit : ℕ) → some ≡ true → decimal ≡ true → value < limit → pick some decimal value limit ≡ Some value
picks true true value limit a b lt = grind arith
picks true false value limit a b lt = absurd cc
picks false decimal value limit a b lt = absurd cc

picks_none : (some decimal : Bool) (value limit : ℕ) → (some ≡ true → decimal ≡ true → value < limit → ⊥) → pick some decimal value limit ≡ None
picks_none true true value limit not = grind arith
picks_none true false value limit not = refl
picks_none false decimal value limit not = refl

-- what is read is the number
pub number_read : {E : Type 0} (bits : ℕ) (text : List ℕ) (r : Result ℕ E) → OkIff r ((all_ascii_digits text ≡ true) × (0 < length text) × (digits_value 10 text < 2 ^ bits)) (digits_value 10 text) → result_ok r ≡ number_of bits text
number_read bits text (Ok n) (is, same) = rw same (sym (picks (nat_lt 0 (length text)) (all_ascii_digits text) (digits_value 10 text) (2 ^ bits) (lt-ltb 0 (length text) is.1) is.0 is.2))
number_read bits text (Err e) not = sym (picks_none (nat_lt 0 (length text)) (all_ascii_digits text) (digits_value 10 text) (2 ^ bits) (λ some decimal below. not (decimal, ltb-true 0 (length text) some, below)))
