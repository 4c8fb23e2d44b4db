-- The laws of relocation sections.
use Rattle.std.proofs.Common.{◌≡◌, ◌⊎◌, ℕ, Bool, List, [], Result, Ok, Err, refl, sym, inl, inr}
use Rattle.wl_bytes.specs.Cursor.{Cursor}
use Rattle.wl_bytes.specs.Parse.{Takes}
use Rattle.wl_bytes.specs.Leb.{IsU32, s32_form, IsSigned, SignedFault}
use Rattle.wl_bytes.specs.Reading as bytes
use Rattle.wl_bytes.specs.declared.leb.LebForm.TheVariants.{S32}
use Rattle.wl_bytes.proofs.Steps.{ok_is}
use Rattle.wl_bytes.proofs.Readings.{IsReading}
use Rattle.wl_bytes.proofs.SignedLaws.{signed_reading}
use Rattle.wl_bytes.proofs.GrammarLaws.{error_reading}
use Rattle.wl_bytes.specs.Error.{read_error}
use Rattle.wl_bytes.specs.Lists.{Listed, ListedFault, list_at, start}
use Rattle.wl_bytes.specs.Lists.{SignedNumberFault, signed_number_at}
use Rattle.wl_bytes.specs.Checks.{WhenFault}
use Rattle.wl_bytes.specs.declared.read_error.ReadError.{ReadError}
use Rattle.wl_bytes.proofs.ReadingLaws.{either, both, seen}
use Rattle.wl_bytes.proofs.ListLaws.{number_reading, one_byte_reading, list_reading, IsReadingFrom, IsWholeReading, reading_from, outcome, to_end_reading}
use Rattle.wl_bytes.proofs.CheckLaws.{when_reading}
use Rattle.wl_custom.specs.RelocationTypes.{has_addend}
use Rattle.wl_custom.specs.Relocations.{type_verdict, addend_or_zero, IsAddendWhere, addend_where_at, AreEntryParts, relocation_of, IsEntry, EntryFault, entry_parts_at, entry_at, AreEntries, EntriesFault, entries_to_end_at, HoldsEntries, HoldsEntriesFault, held_entries_at, IsRelocSection, RelocSectionFault, reloc_section_of}
use Rattle.wl_custom.specs.declared.relocations.RelocHeld.{RelocHeld}
use Rattle.wl_custom.specs.declared.relocations.Target.{Target}
use Rattle.wl_custom.specs.declared.relocations.Target.TheVariants as target
use Rattle.wl_custom.proofs.Exact.{judged_reading}

-- ---- an entry

signed_number_reading : IsReading (IsSigned s32_form) (SignedNumberFault s32_form) (signed_number_at s32_form)
signed_number_reading = error_reading (IsSigned s32_form) (SignedFault s32_form) (bytes.signed_at s32_form) read_error (signed_reading S32)

addend_reading : (addend : Bool) → IsReading (IsAddendWhere addend) (WhenFault (SignedNumberFault s32_form) addend) (addend_where_at addend)
unfolding addend_where_at
addend_reading addend = seen addend_or_zero (when_reading _ _ _ signed_number_reading addend)

entry_parts_reading : (at : Target) → IsReading (AreEntryParts at) (EntryFault at) (entry_parts_at at)
entry_parts_reading at = both one_byte_reading (λ n. both (judged_reading (type_verdict at n)) (λ ty. both number_reading (λ _. both number_reading (λ _. addend_reading (has_addend ty)))))

entry_reading : (at : Target) → IsReading (IsEntry at) (EntryFault at) (entry_at at)
unfolding entry_at
entry_reading at = seen relocation_of (entry_parts_reading at)

list_law : (at : Target) → IsReading (Listed (IsEntry at)) (ListedFault (IsEntry at) (EntryFault at)) (list_at (entry_at at))
list_law at = list_reading (IsEntry at) (EntryFault at) (entry_at at) (entry_reading at)

entries_reading : (at : Target) → IsReadingFrom (AreEntries at) (EntriesFault at) (entries_to_end_at at)
entries_reading at = to_end_reading (list_law at)

-- ---- what a target holds

held_reading : (at : Target) → IsReadingFrom (HoldsEntries at) (HoldsEntriesFault at) (held_entries_at at)
held_reading target.Code = entries_reading target.Code
held_reading target.Data = entries_reading target.Data
held_reading target.Debug = record {
  found = λ c xs e. sym (ok_is {E = ReadError} [] xs e);
  again = λ c xs s. rw s refl;
  fault = λ c e is. absurd cc;
  fails = λ c e f. absurd f;
}

-- ---- the section

pub reloc_section_reading : (verdict : ℕ → Result Target ReadError) → IsWholeReading (IsRelocSection verdict) (RelocSectionFault verdict) (reloc_section_of verdict)
reloc_section_reading verdict = reading_from (IsRelocSection verdict) (RelocSectionFault verdict) (reloc_section_of verdict)
    (λ payload held h. rw (number_reading.again (start payload) held.section.target_section h.behind h.number, h.target, (held_reading held.target).again h.behind held.section.relocations h.entries) refl)
    (λ payload e f. elim f [
      | inl w ↦ rw (number_reading.fails (start payload) e w) refl
      | inr w ↦ elim w.3 [
        | inl v ↦ rw (number_reading.again (start payload) w.0 w.1 w.2, v) refl
        | inr v ↦ rw (number_reading.again (start payload) w.0 w.1 w.2, v.1, (held_reading v.0).fails w.1 e v.2) refl
      ]
    ])
    (λ payload. elim (either number_reading (start payload)) [ inl t ↦ by_target payload t.0 t.1 t.2 (verdict t.0) refl | inr f ↦ inr (f.0, inl f.1) ])
  where
    by_target : (payload : List ℕ) (n : ℕ) (mid : Cursor) → Takes IsU32 n (start payload) mid → (r : Result Target ReadError) → verdict n ≡ r → ((held : RelocHeld) × IsRelocSection verdict held payload) ⊎ ((e : ReadError) × RelocSectionFault verdict e payload)
    by_target payload n mid t (Err e) is = inr (e, inr (n, mid, t, inl is))
    by_target payload n mid t (Ok at) is = elim (outcome (held_reading at) mid) [
      | inl h ↦ inl (record { target = at; section = record { target_section = n; relocations = h.0 } }, record { behind = mid; number = t; target = is; entries = h.1 })
      | inr f ↦ inr (f.0, inr (n, mid, t, inr (at, is, f.1)))
    ]
