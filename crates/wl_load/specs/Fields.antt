-- Fields that take numbers, and bytes that are put at a place (object file linking, version 2,
-- "Relocation Sections"; core specification, "Integers").
use Rattle.std.specs.Prelude.{ℕ, ◌+◌, ◌/◌, ◌%◌, ◌^◌, nat_le, nat_lt, if◌then◌else◌, List, [], ◌∷◌, length}
use Rattle.wl_custom.specs.declared.relocation_type.FieldForm.{FieldForm}
use Rattle.wl_custom.specs.declared.relocation_type.FieldForm.TheVariants.{PaddedUnsigned, PaddedSigned, Word}
use Rattle.wl_numeric.specs.Memory.{little_endian, overlay}

-- seven bits of a number after so many, with the high bit, since another byte follows
abbrev pub seven_bits : ℕ → ℕ → ℕ
seven_bits count n = n / 2 ^ count % 128 + 128

-- five bytes of LEB128, of which the last holds what is left
abbrev pub padded : ℕ → ℕ → List ℕ
padded last n =
    seven_bits 0 n ∷ seven_bits 7 n ∷ seven_bits 14 n ∷ seven_bits 21 n ∷ last ∷ []

-- the highest four bits of a number of 32 bits
abbrev pub highest_bits : ℕ → ℕ
highest_bits n = n / 2 ^ 28

-- the same, with copies of the sign above them
abbrev pub signed_bits : ℕ → ℕ
signed_bits n = if nat_lt n (2 ^ 31) then highest_bits n else highest_bits n + 112

-- the bytes of a field of that form that holds a number of 32 bits
abbrev pub field_bytes : FieldForm → ℕ → List ℕ
field_bytes PaddedUnsigned n = padded (highest_bits n) n
field_bytes PaddedSigned n = padded (signed_bits n) n
field_bytes Word n = little_endian 4 n

-- bytes at a place, over those of a list, in which they lie
abbrev pub laid : ℕ → List ℕ → List ℕ → List ℕ
laid place bytes under =
    if nat_le (place + length bytes) (length under) then overlay place bytes under else under

-- a number in the field at a place
abbrev pub with_field : FieldForm → ℕ → ℕ → List ℕ → List ℕ
with_field form place n bytes = laid place (field_bytes form n) bytes
