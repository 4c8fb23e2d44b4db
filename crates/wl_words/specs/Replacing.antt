-- Objects that are replaced.
use Rattle.std.specs.Prelude.{ℕ, ◌==◌, ◌&&◌, ◌-◌, ◌^◌, Bool, if◌then◌else◌, nat_lt, List, [], length, Option, Some, None, unwrap_or}
use Rattle.std.specs.Str.{all_ascii_digits}
use Rattle.std.specs.Str.Parse.{digits_value}
use Rattle.std.specs.List.{position_or_len, before_first, after_first}
use Rattle.wl_words.specs.Modes.{placed_value}
use Rattle.wl_words.specs.declared.replacing.ObjectReplacement.{ObjectReplacement}

-- a colon
abbrev pub is_colon : ℕ → Bool
is_colon byte = byte == 58

-- decimal digits, at least one
abbrev pub is_decimal : List ℕ → Bool
is_decimal text = nat_lt 0 (length text) && all_ascii_digits text

-- the number that decimal digits write; one that passes the last number counts as that, since there
-- is no such object
abbrev pub object_number : List ℕ → Option ℕ
object_number text =
    if is_decimal text
    then Some (if nat_lt (digits_value 10 text) (2 ^ 64) then digits_value 10 text else 2 ^ 64 - 1)
    else None

-- the number of the object: what stands before the first colon of the value
abbrev pub replaced_object : List ℕ → Option ℕ
replaced_object value =
    if nat_lt (position_or_len is_colon value) (length value)
    then object_number (before_first is_colon value)
    else None

-- the name of the file that is planned in its place: what follows the first colon of the value
abbrev pub replacing_name : List (List ℕ) → ObjectReplacement → List ℕ
replacing_name words r = after_first is_colon (unwrap_or (placed_value words r.place) [])
