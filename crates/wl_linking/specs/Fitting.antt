-- The relocatable object that some bytes are: what its sections hold, and what must hold across
-- them (core specification, "Modules"; object file linking, version 2).
use Rattle.std.specs.Prelude.{◌≡◌, ◌⊎◌, ◌≤◌, ℕ, List, length, map, Result, Ok, Err, IfOk, IfErr}
use Rattle.wl_bytes.specs.declared.reader.TheConstants.{MAX_LEN}
use Rattle.wl_module.specs.declared.sections.SectionHeader.{SectionHeader}
use Rattle.wl_bytes.specs.declared.read_error.ReadError.{ReadError}
use Rattle.wl_module.specs.Sections.{Section, headers_of, IsModule, FrameFault}
use Rattle.wl_bytes.specs.Outcome.{Gives, HasCause}
use Rattle.wl_custom.specs.Symbols.{Symbol}
use Rattle.wl_linking.specs.Targets.{bytes_between}
use Rattle.wl_linking.specs.Object.{Object}
use Rattle.wl_linking.specs.Parts.{no_parts}
use Rattle.wl_linking.specs.Sections.{AreSound, AreFaulty}
use Rattle.wl_linking.specs.Spaces.{NamesExist, NamesFault, spaces_of}
use Rattle.wl_linking.specs.Slots.{with_import_name, AgreeOnNames, SlotFault}
use Rattle.wl_linking.specs.Sites.{PieceOf, body_piece, segment_piece, AreInOrder, LieApart, FieldsFault}
use Rattle.wl_linking.specs.declared.parts.Parts.{Parts}
use Rattle.wl_linking.specs.declared.parts.FieldSites.{FieldSites}
use Rattle.wl_custom.specs.declared.relocations.WasmRelocation.{WasmRelocation}
use Rattle.wl_linking.specs.declared.sites.Site.{Site}
use Rattle.wl_linking.specs.declared.spaces.Counts.{Counts}

-- ---- the object of what sections hold

-- the symbols, each with the name that it takes from its import
abbrev pub named_symbols : Parts → List Symbol
named_symbols parts = map (with_import_name parts.function_names parts.global_names) parts.symbols

-- relocations of code and of data in order of their fields, and where these lie
pub record Fields : Type 0 where
  pub code_relocations : List WasmRelocation
  pub code_sites : List Site
  pub data_relocations : List WasmRelocation
  pub data_sites : List Site

-- those of an object
abbrev pub fields_of : Object → Fields
fields_of o = record {
  code_relocations = o.code_relocations;
  code_sites = o.code_sites;
  data_relocations = o.data_relocations;
  data_sites = o.data_sites;
}

-- the object of these bytes, headers, parts and fields
abbrev pub object_of : List ℕ → List SectionHeader → Parts → Fields → Object
object_of bytes headers parts fields = record {
  bytes = bytes;
  sections = headers;
  types = parts.types;
  imports = parts.imports;
  functions = parts.functions;
  memories = parts.memories;
  globals = parts.globals;
  exports = parts.exports;
  data_counts = parts.data_counts;
  bodies = parts.bodies;
  segments = parts.segments;
  segment_memories = parts.segment_memories;
  segment_infos = parts.segment_infos;
  init_funcs = parts.init_funcs;
  symbols = named_symbols parts;
  reloc_sections = parts.reloc_sections;
  features = parts.features;
  debug_sections = parts.debug_sections;
  code_relocations = fields.code_relocations;
  code_sites = fields.code_sites;
  data_relocations = fields.data_relocations;
  data_sites = fields.data_sites;
}

-- an object of these bytes and headers holds these parts, its relocations in order of their fields
pub record HasItems (bytes : List ℕ) (headers : List SectionHeader) (parts : Parts) (o : Object)
    : Type 0 where
  pub items : o ≡ object_of bytes headers parts (fields_of o)
  pub code : AreInOrder parts.code_relocations o.code_relocations
  pub data_ : AreInOrder parts.data_relocations o.data_relocations

-- ---- what must hold across sections

-- fields of code lie in bodies
abbrev pub code_pieces : Object → List PieceOf
code_pieces o = map body_piece o.bodies

-- fields of data lie in segments
abbrev pub data_pieces : Object → List PieceOf
data_pieces o = map segment_piece o.segments

-- the counts hold, what is named exists, each import has one name, and each field lies by itself in
-- a body or a segment
pub record IsFitting (o : Object) : Type 0 where
  pub names : NamesExist o
  pub slots : AgreeOnNames (spaces_of o) o.symbols
  pub code : LieApart (code_pieces o) o.code_relocations o.code_sites
  pub data_ : LieApart (data_pieces o) o.data_relocations o.data_sites

-- one of these doesn't hold
abbrev pub CrossFault : Object → ReadError → Type 0
CrossFault o e = NamesFault o e
    ⊎ (SlotFault (spaces_of o) o.symbols e
    ⊎ (FieldsFault (code_pieces o) o.code_relocations e
    ⊎ FieldsFault (data_pieces o) o.data_relocations e))

-- the parts don't fit together
abbrev pub PartsFault : List ℕ → List SectionHeader → Parts → ReadError → Type 0
PartsFault bytes headers parts e = (o : Object) × HasItems bytes headers parts o × CrossFault o e

-- the name of a symbol is what stands at its range of the bytes
abbrev pub NameStands : List ℕ → Symbol → Type 0
NameStands bytes s = bytes_between bytes s.name_range ≡ s.name

-- ---- the same in steps

-- parts as their object holds them, and where the fields of their relocations lie, each by itself
pub record AreSettled (given settled : Parts) (sites : FieldSites) : Type 0 where
  pub items : settled ≡ record given {
    symbols = named_symbols given;
    code_relocations = settled.code_relocations;
    data_relocations = settled.data_relocations;
  }
  pub code_order : AreInOrder given.code_relocations settled.code_relocations
  pub data_order : AreInOrder given.data_relocations settled.data_relocations
  pub code : LieApart (map body_piece given.bodies) settled.code_relocations sites.code_sites
  pub data_ : LieApart (map segment_piece given.segments) settled.data_relocations sites.data_sites

-- in order, the relocations of code or those of data have a field that lies nowhere, or not by
-- itself
abbrev pub SettlingFault : Parts → ReadError → Type 0
SettlingFault parts e =
    ((rs : List WasmRelocation) × AreInOrder parts.code_relocations rs
    × FieldsFault (map body_piece parts.bodies) rs e)
    ⊎ ((rs : List WasmRelocation) × AreInOrder parts.data_relocations rs
    × FieldsFault (map segment_piece parts.segments) rs e)

-- an object of these parts, each of whose fields lies by itself
pub record IsPlacedObject (bytes : List ℕ) (headers : List SectionHeader) (parts : Parts)
    (o : Object) : Type 0 where
  pub items : HasItems bytes headers parts o
  pub code : LieApart (code_pieces o) o.code_relocations o.code_sites
  pub data_ : LieApart (data_pieces o) o.data_relocations o.data_sites

-- what is named exists, and each import has one name
pub record IsNamed (o : Object) : Type 0 where
  pub names : NamesExist o
  pub slots : AgreeOnNames (spaces_of o) o.symbols

-- one of the two doesn't hold
abbrev pub NamingFault : Object → ReadError → Type 0
NamingFault o e = NamesFault o e ⊎ SlotFault (spaces_of o) o.symbols e

-- the bytes are sound sections whose parts make this object, each of whose fields lies by itself
pub record HoldsObject (bytes : List ℕ) (o : Object) : Type 0 where
  pub sections : List Section
  pub framed : IsModule sections bytes
  pub parts : Parts
  pub sound : AreSound sections no_parts sections parts
  pub placed : IsPlacedObject bytes (headers_of sections) parts o

-- ---- the object of some bytes

-- bytes that are an object: sound sections with these parts, which fit together
pub record IsObject (o : Object) (bytes : List ℕ) : Type 0 where
  pub sections : List Section
  pub framed : IsModule sections bytes
  pub parts : Parts
  pub sound : AreSound sections no_parts sections parts
  pub items : HasItems bytes (headers_of sections) parts o
  pub fitting : IsFitting o

-- an object as it is kept: its bytes are this object, and MAX_LEN at most
pub record IsWhole (o : Object) : Type 0 where
  pub object : IsObject o o.bytes
  pub within : length o.bytes ≤ MAX_LEN

-- each list of an object has at most n items
pub record HasFewItems (n : ℕ) (o : Object) : Type 0 where
  pub sections : length o.sections ≤ n
  pub types : length o.types ≤ n
  pub imports : length o.imports ≤ n
  pub functions : length o.functions ≤ n
  pub memories : length o.memories ≤ n
  pub globals : length o.globals ≤ n
  pub exports : length o.exports ≤ n
  pub data_counts : length o.data_counts ≤ n
  pub bodies : length o.bodies ≤ n
  pub segments : length o.segments ≤ n
  pub segment_memories : length o.segment_memories ≤ n
  pub segment_infos : length o.segment_infos ≤ n
  pub init_funcs : length o.init_funcs ≤ n
  pub symbols : length o.symbols ≤ n
  pub reloc_sections : length o.reloc_sections ≤ n
  pub features : length o.features ≤ n
  pub debug_sections : length o.debug_sections ≤ n
  pub code_relocations : length o.code_relocations ≤ n
  pub code_sites : length o.code_sites ≤ n
  pub data_relocations : length o.data_relocations ≤ n
  pub data_sites : length o.data_sites ≤ n

-- a whole object, with how many things of each kind it has
pub record IsFile (o : Object) (spaces : Counts) : Type 0 where
  pub whole : IsWhole o
  pub counted : spaces ≡ spaces_of o

-- sound sections that don't fit together
pub record IsUnfitting (sections : List Section) (bytes : List ℕ) (e : ReadError) : Type 0 where
  pub parts : Parts
  pub sound : AreSound sections no_parts sections parts
  pub fault : PartsFault bytes (headers_of sections) parts e

-- the first section that isn't sound is at fault
abbrev pub FirstItemsFault : List Section → ReadError → Type 0
FirstItemsFault sections = AreFaulty sections no_parts sections

-- the frame is at fault, or the first section that isn't sound, or what must hold across sections
abbrev pub ObjectFault : ReadError → List ℕ → Type 0
ObjectFault e bytes = FrameFault e bytes
    ⊎ ((sections : List Section) × IsModule sections bytes
    × (FirstItemsFault sections e ⊎ IsUnfitting sections bytes e))

-- What a call on an object's bytes has answered, memory apart: the object exactly where they are
-- one, and else what is wrong; the frame and the sections are judged before what must hold across
-- them. No list of the object has more items than there are bytes.
pub record ParsesObject (bytes : List ℕ) (result : Result Object ReadError) : Type 0 where
  pub sound : IfOk result (λ o. IsObject o bytes)
  pub few : IfOk result (HasFewItems (length bytes))
  pub only : (o : Object) → IsObject o bytes → Gives (λ f. f) result (Ok o)
  pub fault : IfErr result (HasCause (λ e. ObjectFault e bytes))
  pub frame : (e : ReadError) → FrameFault e bytes → Gives (λ f. f) result (Err e)
  pub section : (e : ReadError) (sections : List Section) → IsModule sections bytes
      → FirstItemsFault sections e
      → Gives (λ f. f) result (Err e)
