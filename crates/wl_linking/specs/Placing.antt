-- Where the fields of relocations are looked for: pieces stand one after the other.
use Rattle.std.specs.Prelude.{◌≡◌, ℕ, ◌+◌, ◌-◌, ◌≤◌, ◌&&◌, nat_le, if◌then◌else◌, List, [], ◌∷◌, length, take, drop, Option, Some, None, ⊤}
use Rattle.wl_bytes.specs.declared.reader.TheConstants.{MAX_LEN}
use Rattle.wl_bytes.specs.declared.read_error.ReadError.{ReadError}
use Rattle.wl_bytes.specs.declared.read_error.ReadError.TheVariants.{Malformed}
use Rattle.wl_bytes.specs.declared.read_error.Why.TheVariants.{Field}
use Rattle.wl_module.specs.Segments.{Segment}
use Rattle.wl_linking.specs.Sites.{PieceOf, has_form, field_len, HasNoSite}
use Rattle.wl_custom.specs.declared.relocation_type.FieldForm.{FieldForm}
use Rattle.wl_custom.specs.declared.relocations.WasmRelocation.{WasmRelocation}
use Rattle.wl_linking.specs.declared.sites.Site.{Site}

-- a segment ends with its bytes, within the limit of its section
pub record IsSpanned (s : Segment) : Type 0 where
  pub payload : length s.payload ≤ s.encoded_size
  pub end : s.section_offset + s.encoded_size ≤ MAX_LEN

-- where a piece ends in its section
abbrev pub piece_end : PieceOf → ℕ
piece_end piece = piece.place + length piece.bytes

-- each piece begins where the one before ends, or after it
abbrev pub Ascend : ℕ → List PieceOf → Type 0
Ascend place [] = ⊤
Ascend place (piece ∷ pieces) = (place ≤ piece.place) × Ascend (piece_end piece) pieces

-- where in a piece a field of that form lies at that place of the section
abbrev pub position_of : PieceOf → FieldForm → ℕ → Option ℕ
position_of piece form offset =
    if nat_le piece.place offset
    && has_form form (take (field_len form) (drop (offset - piece.place) piece.bytes))
    then Some (offset - piece.place)
    else None

-- the site at that place of a piece, if any
abbrev pub site_in : ℕ → Option ℕ → Option Site
site_in unit None = None
site_in unit (Some position) = Some (record { unit = unit; position = position })

-- the site of a field among pieces, the first of which has that number
abbrev pub site_of : ℕ → List PieceOf → FieldForm → ℕ → Option Site
site_of unit [] form offset = None
site_of unit (piece ∷ pieces) form offset =
    if nat_le (piece_end piece) offset
    then site_of (unit + 1) pieces form offset
    else site_in unit (position_of piece form offset)

-- a field lies in no piece
abbrev pub FieldFault : List PieceOf → List WasmRelocation → ReadError → Type 0
FieldFault pieces relocations e = (e ≡ Malformed Field) × HasNoSite pieces relocations
