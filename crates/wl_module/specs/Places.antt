-- Where parts of a payload stand.
use Rattle.std.specs.Prelude.{◌≡◌, ℕ, ◌+◌, List, ◌++◌, length}
use Rattle.std.specs.List.{AllByRecursion}
use Rattle.wl_module.specs.Imports.{Imported, PlacedImported}
use Rattle.wl_module.specs.Segments.{Segment, Targeted}
use Rattle.wl_module.specs.Bodies.{Body}
use Rattle.wl_module.specs.Globals.{DefinedGlobal}
use Rattle.wl_module.specs.Exports.{Exported}

-- the text stands in the bytes, and so many of them lie before it
pub record StandsAt (bytes text : List ℕ) (place : ℕ) : Type 0 where
  pub front : List ℕ
  pub back : List ℕ
  pub whole : bytes ≡ front ++ (text ++ back)
  pub len : length front ≡ place

-- the text stands somewhere in the bytes
abbrev pub IsPart : List ℕ → List ℕ → Type 0
IsPart bytes text = (place : ℕ) × StandsAt bytes text place

-- whatever items the payload spells, the parts of each stand in it
abbrev pub PartsStand : {X : Type 0} → (List ℕ → X → Type 0) → (List X → List ℕ → Type 0) → Type 0
PartsStand {X} stands spells =
    (xs : List X) (payload : List ℕ) → spells xs payload → AllByRecursion (stands payload) xs

-- ---- the parts of each item

-- both names
pub record ImportStands (bytes : List ℕ) (i : Imported) : Type 0 where
  pub origin : IsPart bytes i.origin
  pub name : IsPart bytes i.name

-- both names, the second where it is said to
pub record PlacedImportStands (bytes : List ℕ) (i : PlacedImported) : Type 0 where
  pub origin : IsPart bytes i.import.origin
  pub name : StandsAt bytes i.import.name i.name_offset

-- the name
abbrev pub ExportStands : List ℕ → Exported → Type 0
ExportStands bytes x = IsPart bytes x.name

-- the expression
abbrev pub GlobalStands : List ℕ → DefinedGlobal → Type 0
GlobalStands bytes g = IsPart bytes g.body

-- the bytes, where they are said to
abbrev pub BodyStands : List ℕ → Body → Type 0
BodyStands bytes b = StandsAt bytes b.bytes b.code_offset

-- the whole segment, where it is said to, of which its bytes are the end
pub record SegmentStands (bytes : List ℕ) (s : Segment) : Type 0 where
  pub head : List ℕ
  pub there : StandsAt bytes (head ++ s.payload) s.section_offset
  pub size : length head + length s.payload ≡ s.encoded_size

-- the same, whatever its memory
abbrev pub TargetedStands : List ℕ → Targeted → Type 0
TargetedStands bytes t = SegmentStands bytes t.segment
