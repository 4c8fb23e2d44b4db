-- The laws of whole objects.
use Rattle.std.proofs.Common.{◌≡◌, ◌<◌, ◌≤◌, ℕ, zero, suc, List, [], ◌∷◌, length, map, Some, sym, subst, refl, ap}
use Rattle.wl_bytes.specs.declared.reader.TheConstants.{MAX_LEN}
use Rattle.std.specs.List.{slice_get}
use Rattle.std.proofs.lemmas.Bool.{ltb-true}
use Rattle.std.proofs.lemmas.List.{length-map}
use Rattle.std.proofs.lemmas.Option.{slice_get_within}
use Rattle.wl_linking.specs.Object.{Object}
use Rattle.wl_linking.specs.Spaces.{spaces_of, type_exists}
use Rattle.wl_linking.specs.Sites.{PieceOf, AreSites, body_piece, segment_piece}
use Rattle.wl_linking.specs.Fitting.{IsObject, IsFitting, IsWhole}
use Rattle.wl_custom.specs.declared.relocations.WasmRelocation.{WasmRelocation}
use Rattle.wl_linking.specs.declared.sites.Site.{Site}
use Rattle.wl_lists.proofs.Places.{test_at}

-- an object of bytes that are short enough is whole
pub whole_from : (bytes : List ℕ) (o : Object) → IsObject o bytes → length bytes ≤ MAX_LEN → IsWhole o
whole_from bytes o h le =
    let same : o.bytes ≡ bytes = ap (λ (x : Object). x.bytes) h.items.items in
    record { object = subst (λ (b : List ℕ). IsObject o b) (sym same) h; within = rw same le }

-- a whole object fits together
pub whole_fits : (o : Object) → IsWhole o → IsFitting o
whole_fits o w = w.object.fitting

-- the type of each function is one of the types
pub whole_types : (o : Object) (i t : ℕ) → IsWhole o → slice_get o.functions i ≡ Some t → t < length o.types
whole_types o i t w here = ltb-true t (length o.types) (test_at (type_exists (spaces_of o)) o.functions i t w.object.fitting.names.functions here)

-- ---- the sites of relocations

-- there are as many sites as relocations
pub as_many : (pieces : List PieceOf) (rs : List WasmRelocation) (ss : List Site) → AreSites pieces rs ss → length ss ≡ length rs
as_many pieces [] [] h = refl
as_many pieces [] (s ∷ ss) h = absurd h
as_many pieces (r ∷ rs) [] h = absurd h
as_many pieces (r ∷ rs) (s ∷ ss) h = ap suc (as_many pieces rs ss h.1)

-- each lies in one of the pieces
unit_in : (pieces : List PieceOf) (rs : List WasmRelocation) (ss : List Site) (i : ℕ) (s : Site) → AreSites pieces rs ss → slice_get ss i ≡ Some s → s.unit < length pieces
unit_in pieces [] [] i s h here = absurd cc
unit_in pieces [] (t ∷ ss) i s h here = absurd h
unit_in pieces (r ∷ rs) [] i s h here = absurd h
unit_in pieces (r ∷ rs) (t ∷ ss) zero s h here =
    let same : t ≡ s = cc in
    subst (λ (x : Site). x.unit < length pieces) same (slice_get_within pieces t.unit h.0.piece h.0.here)
unit_in pieces (r ∷ rs) (t ∷ ss) (suc i) s h here = unit_in pieces rs ss i s h.1 here

-- each relocation of code has its site
pub as_many_code_sites : (o : Object) → IsWhole o → length o.code_sites ≡ length o.code_relocations
as_many_code_sites o w = as_many (map body_piece o.bodies) o.code_relocations o.code_sites w.object.fitting.code.sited

-- each relocation of data has its site
pub as_many_data_sites : (o : Object) → IsWhole o → length o.data_sites ≡ length o.data_relocations
as_many_data_sites o w = as_many (map segment_piece o.segments) o.data_relocations o.data_sites w.object.fitting.data_.sited

-- a site of code lies in one of the bodies
pub code_units : (o : Object) (i : ℕ) (s : Site) → IsWhole o → slice_get o.code_sites i ≡ Some s → s.unit < length o.bodies
code_units o i s w here = rw length-map at (unit_in (map body_piece o.bodies) o.code_relocations o.code_sites i s w.object.fitting.code.sited here)

-- a site of data lies in one of the segments
pub data_units : (o : Object) (i : ℕ) (s : Site) → IsWhole o → slice_get o.data_sites i ≡ Some s → s.unit < length o.segments
data_units o i s w here = rw length-map at (unit_in (map segment_piece o.segments) o.data_relocations o.data_sites i s w.object.fitting.data_.sited here)
