-- What the values of options say.
use Rattle.std.specs.Prelude.{ℕ, ◌^◌, ◌==◌, ◌&&◌, Bool, if◌then◌else◌, nat_lt, nat_le, List, length, Option, Some, None, codes}
use Rattle.std.specs.Str.{bytes_eq, all_ascii_digits}
use Rattle.std.specs.Str.Parse.{digits_value}
use Rattle.std.specs.List.{position_or_len, before_first, after_first, slice_split}
use Rattle.std.specs.Option.{option_and_then}
use Rattle.wl_words.specs.Options.{front_of, value_of}
use Rattle.wl_words.specs.Texts.{nonempty}
use Rattle.wl_words.specs.declared.values.TheConstants.{MAX_GENERATED}

-- ---- numbers

-- the number below 2 ^ bits that the decimal digits write
abbrev pub number_of : ℕ → List ℕ → Option ℕ
number_of bits text =
    if nat_lt 0 (length text) && all_ascii_digits text && nat_lt (digits_value 10 text) (2 ^ bits)
    then Some (digits_value 10 text)
    else None

-- the text after stack-size and an equals sign
abbrev pub stack_size_text : List ℕ → Option (List ℕ)
stack_size_text value =
    if bytes_eq (front_of value) (codes "stack-size") then value_of value else None

-- the bytes of the stack
abbrev pub stack_size : List ℕ → Option ℕ
stack_size value = option_and_then (number_of 32) (stack_size_text value)

-- how many objects are generated: at least one
abbrev pub generated_count : List ℕ → Option ℕ
generated_count value =
    option_and_then (λ count.
    if nat_le 1 count && nat_le count MAX_GENERATED then Some count else None)
    (number_of 32 value)

-- ---- names

-- a comma
abbrev pub is_comma : ℕ → Bool
is_comma byte = byte == 44

-- the names between commas; what is empty is none
abbrev pub names_in : List ℕ → List (List ℕ)
names_in value = nonempty (slice_split is_comma value)

-- an imported memory: the module that it is from, and its name there
pub record MemoryName : Type 0 where
  pub origin : List ℕ
  pub name : List ℕ

-- the name of an imported memory: a value up to its first comma names the module; without one that
-- is env, and without a value the name is memory
abbrev pub memory_name : Option (List ℕ) → MemoryName
memory_name None = record { origin = codes "env"; name = codes "memory" }
memory_name (Some value) =
    if nat_lt (position_or_len is_comma value) (length value)
    then record { origin = before_first is_comma value; name = after_first is_comma value }
    else record { origin = codes "env"; name = value }
