-- Relocation sections (object file linking, version 2, "Relocation Sections").
use Rattle.std.specs.Prelude.{◌≡◌, ◌⊎◌, ℕ, ℤ, pos, Bool, true, nat_lt, if◌then◌else◌, List, [], Option, Some, None, Result, Ok, Err}
use Rattle.wl_bytes.specs.Cursor.{Cursor}
use Rattle.wl_bytes.specs.Parse.{Takes, ◌>>=◌}
use Rattle.wl_bytes.specs.Leb.{IsU32, s32_form, IsSigned}
use Rattle.wl_bytes.specs.Items.{IsByte}
use Rattle.wl_bytes.specs.Grammar.{Then, ThenFault, then_at, map_at}
use Rattle.wl_bytes.specs.Lists.{NumberFault, ByteFault, Listed, ListedFault, number_at, one_byte_at, list_at, ToEnd, ToEndFault, to_end_at, start}
use Rattle.wl_bytes.specs.Lists.{SignedNumberFault, signed_number_at}
use Rattle.wl_bytes.specs.Checks.{When, WhenFault, when_at, Seen}
use Rattle.wl_bytes.specs.declared.read_error.ReadError.{ReadError}
use Rattle.wl_bytes.specs.declared.read_error.ReadError.TheVariants.{Malformed, Unsupported}
use Rattle.wl_bytes.specs.declared.read_error.Why.TheVariants.{RelocType as UnknownType}
use Rattle.wl_bytes.specs.declared.read_error.Form.TheVariants.{RelocType}
use Rattle.wl_custom.specs.Verdict.{Judged, JudgedFault, judged_at}
use Rattle.wl_custom.specs.RelocationTypes.{relocation_type_of, has_addend, may_stand_in_data}
use Rattle.wl_custom.specs.declared.relocation_type.TheConstants.{LAST_TYPE}
use Rattle.wl_custom.specs.declared.relocation_type.RelocationType.{RelocationType}
use Rattle.wl_custom.specs.declared.relocations.WasmRelocation.{WasmRelocation}
use Rattle.wl_custom.specs.declared.relocations.RelocHeld.{RelocHeld}
use Rattle.wl_custom.specs.declared.relocations.Target.{Target}
use Rattle.wl_custom.specs.declared.relocations.Target.TheVariants as target

-- ---- an entry

-- relocations of that type may be for that target
abbrev pub may_stand : Target → RelocationType → Bool
may_stand target.Code ty = true
may_stand target.Data ty = may_stand_in_data ty
may_stand target.Debug ty = true

-- there is a rule for the type in that target, or none
abbrev pub ruled : Target → Option RelocationType → Result RelocationType ReadError
ruled at None = Err (Unsupported RelocType)
ruled at (Some ty) = if may_stand at ty then Ok ty else Err (Unsupported RelocType)

-- the type of a relocation in that target
abbrev pub type_verdict : Target → ℕ → Result RelocationType ReadError
type_verdict at n =
    if nat_lt LAST_TYPE n then Err (Malformed UnknownType) else ruled at (relocation_type_of n)

-- the addend that was found, or 0
abbrev pub addend_or_zero : Option ℤ → ℤ
addend_or_zero None = pos 0
addend_or_zero (Some z) = z

-- an addend where there is to be one
abbrev pub IsAddendWhere : Bool → ℕ → ℤ → List ℕ → Type 0
IsAddendWhere addend = Seen (When (IsSigned s32_form) addend) addend_or_zero

-- an addend where there is to be one, read from a place
unfoldable pub addend_where_at : Bool → Cursor → Result (ℤ × Cursor) ReadError
addend_where_at addend c = map_at addend_or_zero (when_at (signed_number_at s32_form) addend) c

-- the parts of an entry as they stand: type, offset, index, addend
abbrev pub EntryParts : Type 0
EntryParts = ℕ × (RelocationType × (ℕ × (ℕ × ℤ)))

-- the relocation of these parts
abbrev pub relocation_of : EntryParts → WasmRelocation
relocation_of p = record { ty = p.1.0; offset = p.1.1.0; index = p.1.1.1.0; addend = p.1.1.1.1 }

-- these parts stand one after the other
abbrev pub AreEntryParts : Target → ℕ → EntryParts → List ℕ → Type 0
AreEntryParts at =
    Then IsByte (λ n. Then (Judged (type_verdict at n))
    (λ ty. Then IsU32 (λ _. Then IsU32 (λ _. IsAddendWhere (has_addend ty)))))

-- a type byte, an offset, an index, and an addend for addresses
abbrev pub IsEntry : Target → ℕ → WasmRelocation → List ℕ → Type 0
IsEntry at = Seen (AreEntryParts at) relocation_of

-- the first part at fault
abbrev pub EntryFault : Target → ReadError → Cursor → Type 0
EntryFault at =
    ThenFault IsByte ByteFault (λ n. ThenFault (Judged (type_verdict at n))
    (JudgedFault (type_verdict at n))
    (λ ty. ThenFault IsU32 NumberFault
    (λ _. ThenFault IsU32 NumberFault
    (λ _. WhenFault (SignedNumberFault s32_form) (has_addend ty)))))

-- the parts of an entry, read from a place
abbrev pub entry_parts_at : Target → Cursor → Result (EntryParts × Cursor) ReadError
entry_parts_at at c =
    then_at one_byte_at (λ n. then_at (judged_at (type_verdict at n))
    (λ ty. then_at number_at (λ _. then_at number_at (λ _. addend_where_at (has_addend ty))))) c

-- an entry, read from a place
unfoldable pub entry_at : Target → Cursor → Result (WasmRelocation × Cursor) ReadError
entry_at at c = map_at relocation_of (entry_parts_at at) c

-- ---- the entries, to the end of the payload

-- a list of entries, and nothing after it
abbrev pub AreEntries : Target → List WasmRelocation → Cursor → Type 0
AreEntries at = ToEnd (Listed (IsEntry at))

-- the list is at fault, or bytes are left after it
abbrev pub EntriesFault : Target → ReadError → Cursor → Type 0
EntriesFault at = ToEndFault (Listed (IsEntry at)) (ListedFault (IsEntry at) (EntryFault at))

-- the entries to the end, read from a place
abbrev pub entries_to_end_at : Target → Cursor → Result (List WasmRelocation) ReadError
entries_to_end_at at c = to_end_at (list_at (entry_at at)) c

-- ---- the section

-- what follows the number of the section that it is for: nothing is read for a debug section
abbrev pub HoldsEntries : Target → List WasmRelocation → Cursor → Type 0
HoldsEntries target.Code entries from = AreEntries target.Code entries from
HoldsEntries target.Data entries from = AreEntries target.Data entries from
HoldsEntries target.Debug entries from = entries ≡ []

-- what follows the number is at fault
abbrev pub HoldsEntriesFault : Target → ReadError → Cursor → Type 0
HoldsEntriesFault target.Code e from = EntriesFault target.Code e from
HoldsEntriesFault target.Data e from = EntriesFault target.Data e from
HoldsEntriesFault target.Debug e from = ⊥

-- what follows the number, read from a place
abbrev pub held_entries_at : Target → Cursor → Result (List WasmRelocation) ReadError
held_entries_at target.Code c = entries_to_end_at target.Code c
held_entries_at target.Data c = entries_to_end_at target.Data c
held_entries_at target.Debug c = Ok []

-- a relocation section, where this is the verdict on each section that it may be for
pub record IsRelocSection (verdict : ℕ → Result Target ReadError) (held : RelocHeld)
    (payload : List ℕ) : Type 0 where
  pub behind : Cursor
  pub number : Takes IsU32 held.section.target_section (start payload) behind
  pub target : verdict held.section.target_section ≡ Ok held.target
  pub entries : HoldsEntries held.target held.section.relocations behind

-- the number is at fault, or the section of that number, or what follows
abbrev pub RelocSectionFault : (ℕ → Result Target ReadError) → ReadError → List ℕ → Type 0
RelocSectionFault verdict e payload = NumberFault e (start payload)
    ⊎ ((number : ℕ) × (behind : Cursor) × Takes IsU32 number (start payload) behind
    × ((verdict number ≡ Err e)
    ⊎ ((at : Target) × (verdict number ≡ Ok at) × HoldsEntriesFault at e behind)))

-- a relocation section, read from its payload
abbrev pub reloc_section_of : (ℕ → Result Target ReadError) → List ℕ → Result RelocHeld ReadError
reloc_section_of verdict payload =
    number_at (start payload) >>= λ p. verdict p.0 >>= λ at. held_entries_at at p.1
    >>= λ entries. Ok (record {
      target = at;
      section = record { target_section = p.0; relocations = entries };
    })
