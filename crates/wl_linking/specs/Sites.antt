-- Where the fields of relocations lie (object file linking, version 2, "Relocation Sections").
use Rattle.std.specs.Prelude.{◌≡◌, ℕ, ◌+◌, ◌-◌, ◌<◌, ◌≤◌, ◌==◌, Bool, true, false, List, [], ◌∷◌, length, take, drop, ◌&&◌, nat_lt, nat_le, Some, ⊤, slice_get, slice_index_or}
use Rattle.std.specs.List.Sorted.{IsNonDecreasingBy, IsStableByKey}
use Rattle.std.specs.Ordering.{nat_cmp}
use Rattle.wl_bytes.specs.declared.read_error.ReadError.{ReadError}
use Rattle.wl_bytes.specs.declared.read_error.ReadError.TheVariants.{Malformed}
use Rattle.wl_bytes.specs.declared.read_error.Why.TheVariants as why
use Rattle.wl_module.specs.Bodies.{Body}
use Rattle.wl_module.specs.Segments.{Segment}
use Rattle.wl_custom.specs.RelocationTypes.{field_form}
use Rattle.wl_custom.specs.declared.relocation_type.FieldForm.{FieldForm}
use Rattle.wl_custom.specs.declared.relocation_type.FieldForm.TheVariants.{PaddedUnsigned, PaddedSigned, Word}
use Rattle.wl_custom.specs.declared.relocations.WasmRelocation.{WasmRelocation}
use Rattle.wl_linking.specs.declared.sites.Site.{Site}

-- ---- fields

-- how many bytes a field of a form has
abbrev pub field_len : FieldForm → ℕ
field_len PaddedUnsigned = 5
field_len PaddedSigned = 5
field_len Word = 4

-- a padded LEB128 number: five bytes, the high bit on all but the last
abbrev pub is_padded : List ℕ → Bool
is_padded (a ∷ b ∷ c ∷ d ∷ e ∷ []) =
    nat_le 128 a && nat_le 128 b && nat_le 128 c && nat_le 128 d && nat_lt e 128
is_padded _ = false

-- the text is a field of that form; any four bytes are a word
abbrev pub has_form : FieldForm → List ℕ → Bool
has_form PaddedUnsigned text = is_padded text
has_form PaddedSigned text = is_padded text
has_form Word text = length text == 4

-- ---- pieces

-- bytes of a payload in which fields may lie, and how many lie before them
pub record PieceOf : Type 0 where
  pub place : ℕ
  pub bytes : List ℕ

-- fields of code lie in bodies
abbrev pub body_piece : Body → PieceOf
body_piece b = record { place = b.code_offset; bytes = b.bytes }

-- fields of data lie in the bytes of segments, with which these end
abbrev pub segment_piece : Segment → PieceOf
segment_piece s =
    record { place = s.section_offset + s.encoded_size - length s.payload; bytes = s.payload }

-- ---- where fields lie

-- the field of r lies in the piece of that number, at that place of its bytes, and has its form
pub record IsSite (pieces : List PieceOf) (r : WasmRelocation) (s : Site) : Type 0 where
  pub piece : PieceOf
  pub here : slice_get pieces s.unit ≡ Some piece
  pub place : piece.place + s.position ≡ r.offset
  pub field : has_form (field_form r.ty)
      (take (field_len (field_form r.ty)) (drop s.position piece.bytes)) ≡ true

-- each relocation has its site
abbrev pub AreSites : List PieceOf → List WasmRelocation → List Site → Type 0
AreSites pieces [] [] = ⊤
AreSites pieces (r ∷ rs) (s ∷ ss) = IsSite pieces r s × AreSites pieces rs ss
AreSites pieces [] (s ∷ ss) = ⊥
AreSites pieces (r ∷ rs) [] = ⊥

-- where a relocation's field begins
abbrev pub offset_of : WasmRelocation → ℕ
offset_of r = r.offset

-- the field of r ends before that of q begins
abbrev pub LiesBefore : WasmRelocation → WasmRelocation → Type 0
LiesBefore r q = r.offset + field_len (field_form r.ty) ≤ q.offset

-- each field ends before any later one begins, so no two share a byte
abbrev pub AreApart : List WasmRelocation → Type 0
AreApart rs =
    (i j : ℕ) (d : WasmRelocation) → i < j → j < length rs
    → LiesBefore (slice_index_or rs i d) (slice_index_or rs j d)

-- a relocation whose field lies in no piece, or isn't of its form
abbrev pub HasNoSite : List PieceOf → List WasmRelocation → Type 0
HasNoSite pieces rs =
    (i : ℕ) × (r : WasmRelocation) × (slice_get rs i ≡ Some r)
    × ((s : Site) → IsSite pieces r s → ⊥)

-- a field that begins before an earlier one ends
abbrev pub HasOverlap : List WasmRelocation → Type 0
HasOverlap rs =
    (i : ℕ) × (j : ℕ) × (d : WasmRelocation) × (i < j) × (j < length rs)
    × (LiesBefore (slice_index_or rs i d) (slice_index_or rs j d) → ⊥)

-- in ascending order of offset, and in file order where offsets are the same
pub record AreInOrder (entries relocations : List WasmRelocation) : Type 0 where
  pub ascending : IsNonDecreasingBy offset_of relocations
  pub stable : IsStableByKey offset_of nat_cmp entries relocations

-- ---- the relocations of a section

-- each field lies in one of the pieces, and by itself
pub record LieApart (pieces : List PieceOf) (relocations : List WasmRelocation) (sites : List Site)
    : Type 0 where
  pub sited : AreSites pieces relocations sites
  pub apart : AreApart relocations

-- a relocation has no field, or its field overlaps that of another
abbrev pub FieldsFault : List PieceOf → List WasmRelocation → ReadError → Type 0
FieldsFault pieces relocations (Malformed why.Field) = HasNoSite pieces relocations
FieldsFault pieces relocations (Malformed why.Overlap) = HasOverlap relocations
FieldsFault pieces relocations _ = ⊥
