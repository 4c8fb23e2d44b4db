-- The text of a name, and what is written of one that is no text.
use Rattle.std.proofs.Common.{◌≡◌, ℕ, ◌+◌, ◌-◌, ◌^◌, ◌/◌, ◌%◌, ◌==◌, ◌<◌, ◌≤◌, true, false, codes, List, [], ◌∷◌, ◌++◌, length, drop, slice_index, Some, None, Result, Ok, Err, refl, arith}
use Rattle.std.proofs.lemmas.Bool.{agree_below_at, eqb-true, le-leb}
use Rattle.std.proofs.lemmas.Fmt.{hex_byte}
use Rattle.std.proofs.lemmas.List.{append-nil, append_assoc, drop_all}
use Rattle.std.proofs.lemmas.Str.{is_utf8-from_IsUtf8, IsUtf8-from_is_utf8}
use Rattle.std.specs.Prelude.{MatchOption, MatchResult}
use Rattle.std.specs.Result.{result_ok}
use Rattle.std.specs.Str.{IsUtf8, is_utf8}
use Rattle.std.specs.Fmt.{digit_glyph, digits, format_spec, padded_integral}
use Rattle.hex.specs.Hex.{lower_digits, encode_lower, encode_with}
use Rattle.hex.proofs.Pairs.{encode_with-drop}
use Rattle.wl_bytes.proofs.Steps.{false_from_not}
use Rattle.wl_custom.specs.Symbols.{Symbol, has_name}
use Rattle.wl_linking.specs.Targets.{bytes_between}
use Rattle.wl_linking.specs.RawNames.{named_text, shown_name, text_of}

-- UTF-8 is text
text_is : (bytes : List ℕ) → IsUtf8 bytes → text_of bytes ≡ Some bytes
text_is bytes utf8 = rw (is_utf8-from_IsUtf8 bytes utf8) refl

-- other bytes are none
no_text_is : (bytes : List ℕ) → ¬ IsUtf8 bytes → text_of bytes ≡ None
no_text_is bytes other = rw (false_from_not (is_utf8 bytes) (λ t. other (IsUtf8-from_is_utf8 bytes t))) refl

-- they are printed in hexadecimal
pub shown_raw : (name : List ℕ) → ¬ IsUtf8 name → codes "0x" ++ encode_lower name ≡ shown_name name
shown_raw name other = rw (false_from_not (is_utf8 name) (λ t. other (IsUtf8-from_is_utf8 name t))) refl

-- the text of a name that lies within the bytes
named_within : (bytes : List ℕ) (symbol : Symbol) → has_name symbol ≡ true → symbol.name_range.0 ≤ symbol.name_range.1 → symbol.name_range.1 ≤ length bytes
    → named_text bytes symbol ≡ text_of (bytes_between bytes symbol.name_range)
named_within bytes symbol named ordered within = rw (named, le-leb _ _ ordered, le-leb _ _ within) refl

-- what was read there is the text of the name
pub named_read : {T E : Type 0} (seen : T → List ℕ) (Fault : E → Type 0) (bytes name : List ℕ) (symbol : Symbol) (r : Result T E)
    → has_name symbol ≡ true → symbol.name_range.0 ≤ symbol.name_range.1 → symbol.name_range.1 ≤ length bytes → name ≡ bytes_between bytes symbol.name_range
    → MatchResult r (λ t. (seen t ≡ name) × IsUtf8 name) (λ e. ¬ IsUtf8 name × Fault e)
    → MatchOption (result_ok r) (named_text bytes symbol ≡ None) (λ t. named_text bytes symbol ≡ Some (seen t))
named_read seen Fault bytes name symbol (Ok t) named ordered within is read =
    let whole = named_within bytes symbol named ordered within in
    let text = text_is name read.1 in
    let same = read.0 in
    rw (whole, ← is, text, same) refl
named_read seen Fault bytes name symbol (Err e) named ordered within is read =
    let whole = named_within bytes symbol named ordered within in
    let none = no_text_is name read.0 in
    rw (whole, ← is, none) refl

-- a digit as it is written is the one of the table
glyph_is : (d : ℕ) → d < 16 → digit_glyph false d ≡ slice_index lower_digits d
glyph_is d lt = eqb-true _ _ (agree_below_at (λ d. digit_glyph false d == slice_index lower_digits d) (λ _. true) 16 d refl lt)

-- the two digits of a byte
abbrev pub digits_of : ℕ → List ℕ
digits_of byte = slice_index lower_digits (byte / 16) ∷ slice_index lower_digits (byte % 16) ∷ []

-- what is written of a byte
pub byte_is : (byte : ℕ) → byte < 256 → padded_integral (format_spec 32 0 4 2 (2 ^ 64 - 1)) false [] (digits 16 false byte) ≡ digits_of byte
byte_is byte fits =
    let high = glyph_is (byte / 16) (omega arith) in
    let low = glyph_is (byte % 16) (omega arith) in
    rw (hex_byte false byte fits, high, low) refl

-- one byte more is written
pub written_more : (done bytes : List ℕ) (i : ℕ) → i < length bytes → done ++ encode_lower (drop i bytes) ≡ encode_lower bytes
    → (done ++ digits_of (slice_index bytes i)) ++ encode_lower (drop (i + 1) bytes) ≡ encode_lower bytes
written_more done bytes i lt so_far = rw append_assoc (rw (encode_with-drop lower_digits bytes i lt) at so_far)

-- each byte is written
pub written_all : (done bytes : List ℕ) (i : ℕ) → length bytes ≤ i → done ++ encode_lower (drop i bytes) ≡ encode_lower bytes → done ≡ encode_lower bytes
unfolding encode_with
written_all done bytes i end so_far = rw (drop_all i bytes end, append-nil) at so_far
