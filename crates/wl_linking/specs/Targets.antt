-- What each section of an object is for (core specification, "Sections"; object file linking,
-- version 2).
use Rattle.std.specs.Prelude.{ℕ, Bool, true, false, ◌-◌, if◌then◌else◌, List, take, drop, Option, Some, None, Result, Ok, Err, codes, slice_get, nat_eq}
use Rattle.std.specs.List.{starts_with}
use Rattle.std.specs.Str.{bytes_eq}
use Rattle.wl_module.specs.declared.section_kind.SectionKind.{SectionKind}
use Rattle.wl_module.specs.declared.section_kind.SectionKind.TheVariants as kind
use Rattle.wl_module.specs.declared.sections.SectionHeader.{SectionHeader}
use Rattle.wl_bytes.specs.declared.read_error.Form.TheVariants.{RelocTarget}
use Rattle.wl_bytes.specs.declared.read_error.ReadError.{ReadError}
use Rattle.wl_bytes.specs.declared.read_error.ReadError.TheVariants.{Malformed, Unsupported}
use Rattle.wl_bytes.specs.declared.read_error.Why.TheVariants.{Repeated}
use Rattle.wl_module.specs.Sections.{Section}
use Rattle.wl_linking.specs.declared.kinds.CustomKind.{CustomKind}
use Rattle.wl_linking.specs.declared.kinds.CustomKind.TheVariants as custom
use Rattle.wl_linking.specs.declared.parts.Parts.{Parts}
use Rattle.wl_custom.specs.declared.relocations.Target.{Target}
use Rattle.wl_custom.specs.declared.relocations.Target.TheVariants as target

-- the bytes from one place to another, as far as there are any
abbrev pub bytes_between : List ℕ → ℕ × ℕ → List ℕ
bytes_between bytes range = take (range.1 - range.0) (drop range.0 bytes)

-- what a custom section is, by its name
abbrev pub custom_kind : List ℕ → CustomKind
custom_kind name =
    if bytes_eq name (codes "linking") then custom.Linking
    else if starts_with nat_eq name (codes "reloc.") then custom.Reloc
    else if starts_with nat_eq name (codes ".debug_") then custom.Debug
    else if bytes_eq name (codes "target_features") then custom.Features
    else custom.Other

-- ---- what a relocation section is for

-- those for debug sections may come any number of times; for other custom sections there is no rule
abbrev pub custom_verdict : CustomKind → Result Target ReadError
custom_verdict custom.Debug = Ok target.Debug
custom_verdict _ = Err (Unsupported RelocTarget)

-- code and data sections have one such section at most; for other standard sections there is no
-- rule
abbrev pub kind_verdict : Parts → List ℕ → SectionKind → Result Target ReadError
kind_verdict before name kind.Code =
    if before.has_code_relocations then Err (Malformed Repeated) else Ok target.Code
kind_verdict before name kind.Data =
    if before.has_data_relocations then Err (Malformed Repeated) else Ok target.Data
kind_verdict before name kind.Custom = custom_verdict (custom_kind name)
kind_verdict before name _ = Err (Unsupported RelocTarget)

-- the verdict on a section, after the sections with these items
abbrev pub target_verdict : Parts → Section → Result Target ReadError
target_verdict before s = kind_verdict before s.name s.kind

-- the verdict on a section that may be missing
abbrev pub verdict_on : Parts → Option Section → Result Target ReadError
verdict_on before None = Err (Unsupported RelocTarget)
verdict_on before (Some s) = target_verdict before s

-- the verdict on the section of that number
abbrev pub numbered_verdict : List Section → Parts → ℕ → Result Target ReadError
numbered_verdict sections before number = verdict_on before (slice_get sections number)

-- ---- debug sections

-- that kind
abbrev pub is_debug_kind : CustomKind → Bool
is_debug_kind custom.Debug = true
is_debug_kind _ = false

-- a custom section with such a name
abbrev pub is_debug_in : List ℕ → Option (ℕ × ℕ) → Bool
is_debug_in bytes None = false
is_debug_in bytes (Some range) = is_debug_kind (custom_kind (bytes_between bytes range))

-- the section of a header is a debug section
abbrev pub is_debug : List ℕ → SectionHeader → Bool
is_debug bytes header = is_debug_in bytes header.name_range

-- there is such a section
abbrev pub is_debug_if : List ℕ → Option SectionHeader → Bool
is_debug_if bytes None = false
is_debug_if bytes (Some header) = is_debug bytes header

-- the section of that number is a debug section
abbrev pub is_debug_at : List ℕ → List SectionHeader → ℕ → Bool
is_debug_at bytes headers number = is_debug_if bytes (slice_get headers number)
