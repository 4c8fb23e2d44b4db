-- The laws of where sections stand.
use Rattle.std.proofs.Common.{◌≡◌, ℕ, ◌+◌, ◌-◌, ◌≤◌, List, ◌++◌, length, ap, refl, arith, length-append}
use Rattle.wl_bytes.specs.declared.reader.TheConstants.{MAX_LEN}
use Rattle.std.specs.List.{AllByRecursion}
use Rattle.std.proofs.lemmas.List.{drop_at, take_at}
use Rattle.wl_module.specs.Places.{StandsAt}
use Rattle.wl_module.specs.Sections.{Section, IsModule, SectionStands}
use Rattle.wl_module.proofs.SectionLaws.{module_stands}
use Rattle.wl_linking.specs.Targets.{bytes_between}
use Rattle.wl_linking.specs.Sections.{EndsWithin}
use Rattle.wl_linking.proofs.HeldLaws.{all_follow}

-- the stretch of so many bytes from a place is the text that stands there
pub stretch_is : (bytes text : List ℕ) (place : ℕ) → StandsAt bytes text place → bytes_between bytes (place, place + length text) ≡ text
stretch_is bytes text place h =
    let many : place + length text - place ≡ length text = omega arith in
    rw (many, h.whole, drop_at h.front (text ++ h.back) place h.len, take_at text h.back (length text) refl) refl

-- a text that stands in some bytes ends within them
pub ends_within : (bytes text : List ℕ) (place : ℕ) → StandsAt bytes text place → place + length text ≤ length bytes
ends_within bytes text place h = omega (arith, h.len, ap length h.whole, length-append h.front (text ++ h.back), length-append text h.back)

-- where the bytes are not too many, each section lies within the limit
pub sections_within : (bytes : List ℕ) (sections : List Section) → length bytes ≤ MAX_LEN → IsModule sections bytes → AllByRecursion EndsWithin sections
sections_within bytes sections le framed =
    all_follow (SectionStands bytes) EndsWithin sections (λ s h. omega (arith, le, ends_within bytes s.payload s.header.payload_range.0 h.payload.0)) (module_stands bytes sections framed)
