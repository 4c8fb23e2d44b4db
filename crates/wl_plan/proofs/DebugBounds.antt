-- No debug section of an object is longer than the object.
use Rattle.std.proofs.Common.{◌≡◌, ◌≤◌, ℕ, Bool, true, false, List, [], ◌∷◌, ◌++◌, length, nat_eq, codes, refl, sym, ap, subst, arith}
use Rattle.std.specs.List.{AllByRecursion, starts_with}
use Rattle.std.specs.Str.{bytes_eq}
use Rattle.std.proofs.lemmas.List.{length-append}
use Rattle.wl_lists.proofs.Places.{all_append}
use Rattle.wl_module.specs.Sections.{Section, SectionStands, IsModule}
use Rattle.wl_module.specs.declared.section_kind.SectionKind.{SectionKind}
use Rattle.wl_module.specs.declared.section_kind.SectionKind.TheVariants as kind
use Rattle.wl_custom.specs.Debug.{DebugInput}
use Rattle.wl_linking.specs.Fitting.{IsObject}
use Rattle.wl_linking.specs.Object.{Object}
use Rattle.wl_linking.specs.Parts.{join, no_parts, part_of}
use Rattle.wl_linking.specs.Sections.{SectionContext, section_context, HoldsCustom, HoldsItems, AreSound}
use Rattle.wl_linking.specs.Targets.{custom_kind}

-- no more than so many bytes
abbrev IsWithin : ℕ → DebugInput → Type 0
IsWithin bound d = length d.payload ≤ bound

abbrev AreWithin : ℕ → List DebugInput → Type 0
AreWithin bound sections = AllByRecursion (IsWithin bound) sections

-- what is held beside debug sections has none of them
held_none : {X I : Type 0} (debug_of_part : I → List DebugInput) (bound : ℕ) (make : X → I) (spells : X → Type 0) (items : I)
    → ((x : X) → debug_of_part (make x) ≡ []) → (x : X) × (items ≡ make x) × spells x → AreWithin bound (debug_of_part items)
held_none {X} {I} debug_of_part bound make spells items none (x, is, h) =
    subst (λ (y : I). AreWithin bound (debug_of_part y)) (sym is) (subst (λ (ds : List DebugInput). AreWithin bound ds) (sym (none x)) tt)

custom_within : (bound : ℕ) (context : SectionContext) (s : Section) (items : _) → length s.payload ≤ bound
    → HoldsCustom (custom_kind s.name) context s items s.payload → AreWithin bound (part_of items).debug_sections
custom_within bound context s items le h = linking (bytes_eq s.name (codes "linking")) refl
  where
    Within : Type 0
    Within = AreWithin bound (part_of items).debug_sections

    features : bytes_eq s.name (codes "linking") ≡ false → starts_with nat_eq s.name (codes "reloc.") ≡ false → starts_with nat_eq s.name (codes ".debug_") ≡ false
        → (b : Bool) → bytes_eq s.name (codes "target_features") ≡ b → Within
    features e1 e2 e3 true e4 = held_none (λ y. (part_of y).debug_sections) bound _ _ items (λ x. refl) (rw (e1, e2, e3, e4) at h)
    features e1 e2 e3 false e4 = subst (λ (y : _). AreWithin bound (part_of y).debug_sections) (sym (rw (e1, e2, e3, e4) at h)) tt

    debug : bytes_eq s.name (codes "linking") ≡ false → starts_with nat_eq s.name (codes "reloc.") ≡ false → (b : Bool) → starts_with nat_eq s.name (codes ".debug_") ≡ b → Within
    debug e1 e2 true e3 = subst (λ (y : _). AreWithin bound (part_of y).debug_sections) (sym (rw (e1, e2, e3) at h)) (le, tt)
    debug e1 e2 false e3 = features e1 e2 e3 (bytes_eq s.name (codes "target_features")) refl

    reloc : bytes_eq s.name (codes "linking") ≡ false → (b : Bool) → starts_with nat_eq s.name (codes "reloc.") ≡ b → Within
    reloc e1 true e2 = held_none (λ y. (part_of y).debug_sections) bound _ _ items (λ x. refl) (rw (e1, e2) at h)
    reloc e1 false e2 = debug e1 e2 (starts_with nat_eq s.name (codes ".debug_")) refl

    linking : (b : Bool) → bytes_eq s.name (codes "linking") ≡ b → Within
    linking true e1 = held_none (λ y. (part_of y).debug_sections) bound _ _ items (λ x. refl) (rw e1 at h)
    linking false e1 = reloc e1 (starts_with nat_eq s.name (codes "reloc.")) refl

section_within : (bound : ℕ) (k : SectionKind) (context : SectionContext) (s : Section) (items : _) → length s.payload ≤ bound
    → HoldsItems k context s items s.payload → AreWithin bound (part_of items).debug_sections
section_within bound kind.Custom context s items le h = custom_within bound context s items le h
section_within bound kind.Type context s items le h = held_none (λ y. (part_of y).debug_sections) bound _ _ items (λ x. refl) h
section_within bound kind.Import context s items le h = held_none (λ y. (part_of y).debug_sections) bound _ _ items (λ x. refl) h
section_within bound kind.Function context s items le h = held_none (λ y. (part_of y).debug_sections) bound _ _ items (λ x. refl) h
section_within bound kind.Table context s items le h = absurd h
section_within bound kind.Memory context s items le h = held_none (λ y. (part_of y).debug_sections) bound _ _ items (λ x. refl) h
section_within bound kind.Global context s items le h = held_none (λ y. (part_of y).debug_sections) bound _ _ items (λ x. refl) h
section_within bound kind.Export context s items le h = held_none (λ y. (part_of y).debug_sections) bound _ _ items (λ x. refl) h
section_within bound kind.Start context s items le h = absurd h
section_within bound kind.Element context s items le is = subst (λ (y : _). AreWithin bound (part_of y).debug_sections) (sym is) tt
section_within bound kind.Code context s items le h = held_none (λ y. (part_of y).debug_sections) bound _ _ items (λ x. refl) h
section_within bound kind.Data context s items le h = held_none (λ y. (part_of y).debug_sections) bound _ _ items (λ x. refl) h
section_within bound kind.DataCount context s items le h = held_none (λ y. (part_of y).debug_sections) bound _ _ items (λ x. refl) h
section_within bound kind.Tag context s items le h = absurd h

-- what stands in bytes isn't longer
payload_within : (bytes : List ℕ) (s : Section) → SectionStands bytes s → length s.payload ≤ length bytes
payload_within bytes s h =
    let there = h.payload.0 in
    let whole = ap (λ (b : List ℕ). length b) there.whole in
    let front = length-append there.front (s.payload ++ there.back) in
    let back = length-append s.payload there.back in
    omega (arith, whole, front, back)

-- those of all sections
sound_within : (bytes : List ℕ) (sections : List Section) (before : _) (ss : List Section) (after : _) → AllByRecursion (SectionStands bytes) ss
    → AreSound sections before ss after → AreWithin (length bytes) before.debug_sections → AreWithin (length bytes) after.debug_sections
sound_within bytes sections before [] after stand is h = subst (λ (p : _). AreWithin (length bytes) p.debug_sections) is h
sound_within bytes sections before (s ∷ ss) after stand (items, sound, rest) h =
    let here = section_within (length bytes) s.kind (section_context sections before) s items (payload_within bytes s stand.0) sound in
    sound_within bytes sections (join before (part_of items)) ss after stand.1 rest
    (all_append (IsWithin (length bytes)) before.debug_sections (part_of items).debug_sections h here)

-- the sections of a module stand in its bytes
abbrev pub SectionsStand : Type 0
SectionsStand = (bytes : List ℕ) (sections : List Section) → IsModule sections bytes → AllByRecursion (SectionStands bytes) sections

-- no debug section of an object has more bytes than the object
pub debug_within : SectionsStand → (o : Object) (bytes : List ℕ) → IsObject o bytes → AllByRecursion (λ (d : DebugInput). length d.payload ≤ length bytes) o.debug_sections
debug_within stand o bytes is =
    subst (λ (ds : List DebugInput). AreWithin (length bytes) ds) (sym (ap (λ (x : Object). x.debug_sections) is.items.items))
    (sound_within bytes is.sections no_parts is.sections is.parts (stand bytes is.sections is.framed) is.sound tt)
