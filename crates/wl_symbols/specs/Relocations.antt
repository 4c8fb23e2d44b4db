-- The relocations of the objects whose fields lie in units that are kept.
use Rattle.std.specs.Prelude.{◌≡◌, ◌≤◌, ℕ, ◌+◌, Bool, List, [], ◌∷◌, ◌++◌, if◌then◌else◌}
use Rattle.wl_linking.specs.Object.{Object}
use Rattle.wl_custom.specs.RelocationTypes.{field_form}
use Rattle.wl_custom.specs.declared.relocations.WasmRelocation.{WasmRelocation}
use Rattle.wl_linking.specs.Sites.{field_len}
use Rattle.wl_linking.specs.declared.sites.Site.{Site}
use Rattle.wl_symbols.specs.Live.{Live, is_live}
use Rattle.wl_symbols.specs.declared.units.WasmGcUnit.{WasmGcUnit}
use Rattle.wl_symbols.specs.declared.units.WasmGcUnit.TheVariants.{DefinedFunction, DataSegment}
use Rattle.wl_symbols.specs.declared.relocated.FixupPlace.{FixupPlace}
use Rattle.wl_symbols.specs.declared.relocated.FixupPlace.TheVariants.{Code, Segment}
use Rattle.wl_symbols.specs.declared.relocated.Relocated.{Relocated}
use Rattle.wl_symbols.specs.Input.{Input}

-- the unit of that number: a function's in code, a segment's in data
abbrev pub unit_in : FixupPlace → ℕ → WasmGcUnit
unit_in Code unit = DefinedFunction unit
unit_in Segment unit = DataSegment unit

-- object i keeps that unit
abbrev pub keeps_unit : Live → FixupPlace → ℕ → ℕ → Bool
keeps_unit live place i unit = is_live live (record { object = i; unit = unit_in place unit })

-- a relocation of object i, whose field lies at that site
abbrev pub relocated_at : FixupPlace → ℕ → WasmRelocation → Site → Relocated
relocated_at place i r s = record { object = i; place = place; relocation = r; site = s }

-- the relocation, where its field lies in a kept unit
abbrev pub relocated_if : Live → Relocated → List Relocated
relocated_if live r = if keeps_unit live r.place r.object r.site.unit then r ∷ [] else []

-- those of these relocations of object i whose fields lie in kept units
abbrev pub relocated_in : Live → FixupPlace → ℕ → List WasmRelocation → List Site → List Relocated
relocated_in live place i (r ∷ rs) (s ∷ ss) =
    relocated_if live (relocated_at place i r s) ++ relocated_in live place i rs ss
relocated_in live place i _ _ = []

-- those of object i: code before data, each in order of the fields
abbrev pub object_relocations : Live → ℕ → Object → List Relocated
object_relocations live i o =
    relocated_in live Code i o.code_relocations o.code_sites
    ++ relocated_in live Segment i o.data_relocations o.data_sites

-- those of these objects, the first of which has number i
abbrev pub relocations_from : Live → ℕ → List Object → List Relocated
relocations_from live i [] = []
relocations_from live i (o ∷ objects) =
    object_relocations live i o ++ relocations_from live (i + 1) objects

-- the kept relocations of all objects
abbrev pub kept_relocations : Live → List Object → List Relocated
kept_relocations live objects = relocations_from live 0 objects

-- the kept relocations
abbrev pub relocations : Input → List Relocated
relocations input = kept_relocations input.live input.link.objects

-- where both lie in one unit, the field of the first ends before that of the second begins
abbrev pub EndsBefore : Relocated → Relocated → Type 0
EndsBefore r q =
    r.object ≡ q.object → r.place ≡ q.place → r.site.unit ≡ q.site.unit
    → r.site.position + field_len (field_form r.relocation.ty) ≤ q.site.position
