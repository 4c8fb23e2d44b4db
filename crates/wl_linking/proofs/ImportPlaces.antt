-- The names of imports stand within the bytes of their object, and so do segments.
use Rattle.std.proofs.Common.{ℕ, ◌≤◌, List, ◌++◌, length, refl, arith, length-append}
use Rattle.wl_bytes.specs.declared.reader.TheConstants.{MAX_LEN}
use Rattle.std.specs.List.{AllByRecursion}
use Rattle.wl_module.specs.Segments.{Targeted}
use Rattle.wl_module.specs.Places.{PlacedImportStands, TargetedStands}
use Rattle.wl_module.specs.Sections.{Section, IsModule}
use Rattle.wl_module.specs.declared.section_kind.SectionKind.{SectionKind}
use Rattle.wl_module.proofs.PlaceLaws.{placed_imports_stand, targeted_stand}
use Rattle.wl_module.proofs.SectionLaws.{module_stands}
use Rattle.wl_linking.specs.SlotsReading.{IsNamedWithin}
use Rattle.wl_linking.specs.Parts.{no_parts, AreNamedWithin}
use Rattle.wl_linking.specs.Placing.{IsSpanned}
use Rattle.wl_linking.specs.Sections.{EndsWithin, AreSound}
use Rattle.wl_linking.specs.declared.parts.Parts.{Parts}
use Rattle.wl_linking.specs.declared.section.SectionItems.{SectionItems}
use Rattle.wl_linking.specs.declared.section.SectionItems.TheVariants.{Imports, Data}
use Rattle.wl_linking.proofs.HeldLaws.{Spelled, HaveInEach, all_held, all_follow, all_mapped}
use Rattle.wl_linking.proofs.PlacedLaws.{ends_within}

-- the names of a section's imports stand within the limit where it does
pub named_within : (k : SectionKind) (s : Section) (items : SectionItems) → EndsWithin s → Spelled k s items s.payload → AreNamedWithin items
named_within k s (Imports imports base) le (kind_is, base_is, h) = (
  rw base_is (omega arith),
  all_follow (PlacedImportStands s.payload) IsNamedWithin imports (λ i stands. omega (arith, ends_within s.payload i.import.name i.name_offset stands.name, le)) (placed_imports_stand imports s.payload h),
)
named_within k s _ le h = tt

target_spanned : (payload : List ℕ) (t : Targeted) → length payload ≤ MAX_LEN → TargetedStands payload t → IsSpanned t.segment
target_spanned payload t le h = record {
  payload = omega (arith, h.size);
  end = omega (arith, h.size, ends_within payload (h.head ++ t.segment.payload) t.segment.section_offset h.there, length-append h.head t.segment.payload, le);
}

spanned_in_each : (bytes : List ℕ) → length bytes ≤ MAX_LEN → HaveInEach (λ p. p.segments) IsSpanned bytes
spanned_in_each bytes le k s (Data segments) there h =
    let within : length s.payload ≤ MAX_LEN = omega (arith, ends_within bytes s.payload s.header.payload_range.0 there.payload.0, le) in
    all_mapped (λ (t : Targeted). t.segment) (TargetedStands s.payload) IsSpanned segments (λ t stands. target_spanned s.payload t within stands) (targeted_stand segments s.payload h.1)
spanned_in_each bytes le k s _ there h = tt

-- the segments of all sections lie within the limit
pub parts_spanned : (bytes : List ℕ) (sections : List Section) (parts : Parts) → length bytes ≤ MAX_LEN → IsModule sections bytes → AreSound sections no_parts sections parts → AllByRecursion IsSpanned parts.segments
parts_spanned bytes sections parts le framed sound = all_held (λ p. p.segments) IsSpanned bytes (λ a b. refl) (spanned_in_each bytes le) sections no_parts sections parts (module_stands bytes sections framed) sound tt
