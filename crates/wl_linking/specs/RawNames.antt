-- Names as the bytes that they are.
use Rattle.std.specs.Prelude.{ℕ, ◌++◌, ◌&&◌, nat_le, Bool, if◌then◌else◌, List, length, codes, Option, Some, None}
use Rattle.std.specs.Str.{is_utf8}
use Rattle.hex.specs.Hex.{encode_lower}
use Rattle.wl_custom.specs.Symbols.{Symbol, has_name}
use Rattle.wl_linking.specs.Targets.{bytes_between}

-- a range lies within the bytes: it doesn't end before it begins, nor after the last of them
abbrev pub is_within : List ℕ → ℕ × ℕ → Bool
is_within bytes range = nat_le range.0 range.1 && nat_le range.1 (length bytes)

-- bytes as text, which they are where they are UTF-8
abbrev pub text_of : List ℕ → Option (List ℕ)
text_of bytes = if is_utf8 bytes then Some bytes else None

-- the text at a range of the bytes, where it lies within them and they are UTF-8 there
abbrev pub text_between : List ℕ → ℕ × ℕ → Option (List ℕ)
text_between bytes range =
    if is_within bytes range then text_of (bytes_between bytes range) else None

-- the text at the range of a symbol's name, where the symbol has a name
abbrev pub named_text : List ℕ → Symbol → Option (List ℕ)
named_text bytes symbol = if has_name symbol then text_between bytes symbol.name_range else None

-- a name as it is printed: as it is where it is UTF-8, and else as 0x and its bytes in hexadecimal
abbrev pub shown_name : List ℕ → List ℕ
shown_name name = if is_utf8 name then name else codes "0x" ++ encode_lower name
