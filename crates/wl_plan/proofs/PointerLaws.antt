-- Pointers lie in the block of a thread, and no two share a byte.
use Rattle.std.proofs.Common.{◌≡◌, ◌∙◌, ◌≤◌, ◌<◌, inl, inr, ℕ, ℤ, zero, suc, ◌+◌, ◌==◌, Bool, true, false, List, [], ◌∷◌, length, map, take, drop, filter, refl, sym, ap, subst, arith, Option, Some, None, slice_get, Contains, if◌then◌else◌, eqb-true, find, not}
use Rattle.std.specs.Prelude.{Result, Ok, Err, pos, ◌+ℤ◌}
use Rattle.std.specs.List.{AllByRecursion, AllZip, filter_map, cons_option, slice_index_or}
use Rattle.std.specs.Option.{option_map_or, option_and_then}
use Rattle.std.proofs.lemmas.Bool.{cases_Bool, cases_eq}
use Rattle.std.proofs.lemmas.List.{length-take, length-drop}
use Rattle.wl_module.specs.Segments.{Segment as DataSegment}
use Rattle.wl_custom.specs.RelocationTypes.{field_form, has_addend}
use Rattle.wl_custom.specs.declared.relocation_type.FieldForm.{FieldForm}
use Rattle.wl_custom.specs.declared.relocation_type.FieldForm.TheVariants.{PaddedUnsigned, PaddedSigned, Word}
use Rattle.wl_custom.specs.declared.relocation_type.RelocationType.{RelocationType}
use Rattle.wl_linking.specs.Fitting.{IsWhole, data_pieces}
use Rattle.wl_linking.specs.Object.{Object}
use Rattle.wl_linking.specs.Sites.{IsSite, PieceOf, segment_piece, field_len, has_form, is_padded}
use Rattle.wl_data.specs.DataPlaces.{HasLayout, HaveLayouts, in_one_row, in_output_order, is_template, is_thread_local, lies_in_memory, AreSeparate, EndBy}
use Rattle.wl_data.specs.Segments.{KeptData, SegmentLayout}
use Rattle.wl_data.specs.declared.options.DataOptions.{DataOptions}
use Rattle.wl_index.specs.declared.data_address.WasmDataAddress.{WasmDataAddress}
use Rattle.wl_index.specs.declared.data_address.WasmDataAddress.TheVariants.{Missing, Placed, Passive, TlsOffset}
use Rattle.wl_reloc.specs.Addresses.{stored_by_thread, deferred_at, deferred_value}
use Rattle.wl_reloc.specs.declared.error.RelocError.{RelocError}
use Rattle.wl_synth.specs.Memory.{ShareNoByte}
use Rattle.wl_synth.specs.ThreadLocal.{AreWordsApart}
use Rattle.wl_synth.specs.declared.parts.TlsPointerFixup.{TlsPointerFixup}
use Rattle.wl_symbols.specs.declared.units.WasmGcUnit.TheVariants as unit
use Rattle.wl_symbols.specs.Input.{Input, keeps}
use Rattle.wl_symbols.specs.Relocations.{relocations}
use Rattle.wl_symbols.specs.declared.relocated.FixupPlace.{FixupPlace}
use Rattle.wl_symbols.specs.declared.relocated.FixupPlace.TheVariants.{Code, Segment}
use Rattle.wl_symbols.specs.declared.relocated.Relocated.{Relocated}
use Rattle.wl_places.specs.Addresses.{layouts_of, segment_among, segment_start, start_of, numbers_from, segment_space}
use Rattle.wl_places.specs.KeptData.{kept_data, kept_from, kept_segments, segments_from}
use Rattle.wl_places.specs.Placing.{IsPlacing, data_input, data_options}
use Rattle.wl_plan.specs.Threads.{address_named, template_at, template_start, pointer_at, pointer_of, tls_pointers}
use Rattle.wl_places.specs.declared.placing.Placing.{Placing}
use Rattle.wl_plan.proofs.FieldLaws.{IsListed, HasObject, object_of}
use Rattle.wl_symbols.specs.Relocations.{EndsBefore}
use Rattle.wl_lists.proofs.Later.{AllLater}
use Rattle.wl_symbols.proofs.KeptFieldLaws.{all_fitting, all_later}
use Rattle.wl_lists.proofs.Places.{all_at, append_split, came_at, get_in_front, get_behind, mapped_at}
use Rattle.wl_lists.proofs.Beside.{zip_right, zip_left}
use Rattle.wl_plan.proofs.PositionLaws.{WholeFit, site_at}
use Rattle.wl_places.proofs.SegmentLaws.{from_filter}
use Rattle.wl_places.proofs.SmallLaws.{SegmentsHaveLayouts}

-- ---- a field lies in its segment

padded_length : (text : List ℕ) → is_padded text ≡ true → length text ≡ 5
padded_length [] e = absurd cc
padded_length (a ∷ []) e = absurd cc
padded_length (a ∷ b ∷ []) e = absurd cc
padded_length (a ∷ b ∷ c ∷ []) e = absurd cc
padded_length (a ∷ b ∷ c ∷ d ∷ []) e = absurd cc
padded_length (a ∷ b ∷ c ∷ d ∷ f ∷ []) e = refl
padded_length (a ∷ b ∷ c ∷ d ∷ f ∷ h ∷ text) e = absurd cc

form_length : (form : FieldForm) (text : List ℕ) → has_form form text ≡ true → length text ≡ field_len form
form_length PaddedUnsigned text e = padded_length text e
form_length PaddedSigned text e = padded_length text e
form_length Word text e = eqb-true (length text) 4 e

field_ends : (form : FieldForm) (n : ℕ) (bytes : List ℕ)
    → has_form form (take (field_len form) (drop n bytes)) ≡ true → 0 < field_len form
    → n + field_len form ≤ length bytes
field_ends form n bytes e some =
    let whole = form_length form (take (field_len form) (drop n bytes)) e in
    omega (arith, whole, length-take (field_len form) (drop n bytes), length-drop n bytes, some)

some_bytes : (form : FieldForm) → 0 < field_len form
some_bytes PaddedUnsigned = omega arith
some_bytes PaddedSigned = omega arith
some_bytes Word = omega arith

-- the field of a kept relocation of data lies in its segment
pub record IsInSegment (input : Input) (r : Relocated) : Type 0 where
  pub o : Object
  pub here : slice_get input.link.objects r.object ≡ Some o
  pub segment : DataSegment
  pub there : slice_get o.segments r.site.unit ≡ Some segment
  pub within : r.site.position + field_len (field_form r.relocation.ty) ≤ length segment.payload

never_segment : (p : FixupPlace) → p ≡ Code → p ≡ Segment → ⊥
never_segment p a b = let e : Code ≡ Segment = sym a ∙ b in absurd (cc e)

listed_data : (input : Input) (r : Relocated) (h : HasObject input r) → r.place ≡ Segment
    → IsListed Segment r.object h.object.data_relocations h.object.data_sites r
listed_data input r h is = elim h.of [
  | inl code ↦ absurd (never_segment r.place code.place_is is)
  | inr segment ↦ segment
]

pub in_segment : WholeFit → (input : Input) (r : Relocated)
    → AllByRecursion IsWhole input.link.objects → Contains (relocations input) r
    → r.place ≡ Segment → IsInSegment input r
in_segment law input r whole kept is =
    let h = object_of input r kept in
    let o = h.object in
    let l = listed_data input r h is in
    let fit = law o (all_at IsWhole input.link.objects r.object o whole h.here) in
    let site : IsSite (data_pieces o) r.relocation r.site =
    site_at (data_pieces o) o.data_relocations o.data_sites l.k r.relocation r.site
    (fit.data_).sited l.relocation l.site in
    let s = came_at segment_piece o.segments r.site.unit site.piece site.here in
    let bytes : (s.0).payload ≡ (site.piece).bytes = ap (λ (p : PieceOf). p.bytes) s.2 in
    let form = field_form r.relocation.ty in
    let ends : r.site.position + field_len form ≤ length (site.piece).bytes =
    field_ends form r.site.position (site.piece).bytes site.field (some_bytes form) in
    record { o = o; here = h.here; segment = s.0; there = s.1; within = rw bytes ends }

-- ---- a layout is that of its segment

pub record IsKeptAt (o : Object) (segments : List DataSegment) (n : ℕ) (z : KeptData) : Type 0 where
  pub k : ℕ
  pub segment : DataSegment
  pub here : slice_get segments k ≡ Some segment
  pub is : z ≡ kept_data o (n + k) segment

kept_if : (b : Bool) (d : KeptData) (i : ℕ) (z : KeptData) → slice_get (if b then d ∷ [] else []) i ≡ Some z → d ≡ z
kept_if true d zero z e = cc
kept_if true d (suc i) z e = absurd cc
kept_if false d i z e = absurd cc

kept_at : (input : Input) (object : ℕ) (o : Object) (n : ℕ) (segments : List DataSegment) (i : ℕ)
    (z : KeptData) → slice_get (kept_from input object o n segments) i ≡ Some z
    → IsKeptAt o segments n z
kept_at input object o n [] i z e = absurd cc
kept_at input object o n (s ∷ segments) i z e =
    let first : List KeptData = if keeps input object (unit.DataSegment n) then kept_data o n s ∷ [] else [] in
    elim (append_split first (kept_from input object o (n + 1) segments) i z e) [
      | inl front ↦
          let same : kept_data o n s ≡ z =
          kept_if (keeps input object (unit.DataSegment n)) (kept_data o n s) i z front in
          let number : n + 0 ≡ n = omega arith in
          record {
            k = 0;
            segment = s;
            here = refl;
            is = sym (ap (λ (m : ℕ). kept_data o m s) number ∙ same);
          }
      | inr behind ↦
          let rest = kept_at input object o (n + 1) segments behind.0 z behind.2 in
          let number : (n + 1) + rest.k ≡ n + suc rest.k = omega arith in
          record {
            k = suc rest.k;
            segment = rest.segment;
            here = rest.here;
            is = rest.is ∙ ap (λ (m : ℕ). kept_data o m rest.segment) number;
          }
    ]

ordered_at : (input : Input) (object : ℕ) (o : Object) (i : ℕ) (z : KeptData)
    → slice_get (in_output_order (kept_segments input object o)) i ≡ Some z
    → IsKeptAt o o.segments 0 z
ordered_at input object o i z e =
    let all = kept_segments input object o in
    elim (append_split (filter (λ (s : KeptData). not s.tls) all) (filter is_thread_local all) i z e) [
      | inl front ↦
          let f = from_filter (λ (s : KeptData). not s.tls) all i z front in
          kept_at input object o 0 o.segments f.0 z f.1
      | inr behind ↦
          let f = from_filter is_thread_local all behind.0 z behind.2 in
          kept_at input object o 0 o.segments f.0 z f.1
    ]

-- the layout of an object's segment has its bytes
laid_bytes : (input : Input) (options : DataOptions) (object : ℕ) (o : Object) (layouts : List SegmentLayout)
    (k n : ℕ) (l : SegmentLayout) (s : DataSegment)
    → HaveLayouts options (kept_segments input object o) layouts → slice_get layouts k ≡ Some l
    → l.segment_index ≡ n → slice_get o.segments n ≡ Some s → l.payload ≡ s.payload
laid_bytes input options object o layouts k n l s have at number there =
    let z = zip_left (HasLayout options) (in_output_order (kept_segments input object o)) layouts k l have at in
    let f = ordered_at input object o k z.0 z.1 in
    let index : l.segment_index ≡ (z.0).original = (z.2).segment_index in
    let original : (z.0).original ≡ 0 + f.k = ap (λ (d : KeptData). d.original) f.is in
    let same : f.k ≡ n = omega (arith, index, original, number) in
    let here : slice_get o.segments n ≡ Some f.segment =
    subst (λ (m : ℕ). slice_get o.segments m ≡ Some f.segment) same f.here in
    let one : f.segment ≡ s = cc (here, there) in
    (z.2).payload ∙ ap (λ (d : KeptData). d.payload) f.is ∙ ap (λ (x : DataSegment). x.payload) one

segments_at : (input : Input) (n k : ℕ) (objects : List Object) (o : Object)
    → slice_get objects k ≡ Some o
    → slice_get (segments_from input n objects) k ≡ Some (kept_segments input (n + k) o)
segments_at input n k [] o e = absurd cc
segments_at input n zero (x ∷ objects) o e =
    let same : x ≡ o = cc in
    let number : n ≡ n + 0 = omega arith in
    ap (λ (y : Object). Some (kept_segments input n y)) same
    ∙ ap (λ (m : ℕ). Some (kept_segments input m o)) number
segments_at input n (suc k) (x ∷ objects) o e =
    let number : (n + 1) + k ≡ n + suc k = omega arith in
    segments_at input (n + 1) k objects o e ∙ ap (λ (m : ℕ). Some (kept_segments input m o)) number

-- ---- where it stands in the output

find_at : {X : Type 0} (p : X → Bool) (xs : List X) (x : X) → find p xs ≡ Some x
    → (k : ℕ) × (slice_get xs k ≡ Some x) × (p x ≡ true)
find_at p [] x e = absurd cc
find_at p (y ∷ xs) x e = elim (cases_Bool (p y)) [
  | inl passes ↦
      let first : Some y ≡ Some x = rw passes at e in
      let same : y ≡ x = cc (first) in
      (zero, first, rw (← same) passes)
  | inr fails ↦ let rest = find_at p xs x (rw fails at e) in (suc rest.0, rest.1, rest.2)
]

-- the layout stands there among all, under the number of its object and its own
pub record StandsInRow (n : ℕ) (rows : List (List SegmentLayout)) (object : ℕ) (l : SegmentLayout)
    : Type 0 where
  pub place : ℕ
  pub here : slice_get (in_one_row rows) place ≡ Some l
  pub number : slice_get (numbers_from n rows) place ≡ Some (n + object, l.segment_index)

pub in_row : (n : ℕ) (rows : List (List SegmentLayout)) (object : ℕ) (row : List SegmentLayout)
    (k : ℕ) (l : SegmentLayout) → slice_get rows object ≡ Some row → slice_get row k ≡ Some l
    → StandsInRow n rows object l
in_row n [] object row k l e at = absurd cc
in_row n (r ∷ rows) zero row k l e at =
    let same : r ≡ row = cc in
    let here : slice_get r k ≡ Some l = rw same at in
    let f : SegmentLayout → ℕ × ℕ = λ x. (n, x.segment_index) in
    let number : n ≡ n + 0 = omega arith in
    record {
      place = k;
      here = get_in_front r (in_one_row rows) k l here;
      number = get_in_front (map f r) (numbers_from (n + 1) rows) k (n, l.segment_index) (mapped_at f r k l here)
          ∙ ap (λ (m : ℕ). Some (m, l.segment_index)) number;
    }
in_row n (r ∷ rows) (suc object) row k l e at =
    let rest = in_row (n + 1) rows object row k l e at in
    let f : SegmentLayout → ℕ × ℕ = λ x. (n, x.segment_index) in
    let number : (n + 1) + object ≡ n + suc object = omega arith in
    record {
      place = length r + rest.place;
      here = get_behind r (in_one_row rows) rest.place (length r + rest.place) refl ∙ rest.here;
      number = get_behind (map f r) (numbers_from (n + 1) rows) rest.place (length r + rest.place) (mapped_length f r rest.place)
          ∙ rest.number ∙ ap (λ (m : ℕ). Some (m, l.segment_index)) number;
    }
  where
    mapped_length : (f : SegmentLayout → ℕ × ℕ) (xs : List SegmentLayout) (m : ℕ) → length (map f xs) + m ≡ length xs + m
    mapped_length f [] m = refl
    mapped_length f (x ∷ xs) m = let tail = mapped_length f xs m in omega (arith, tail)

-- ---- what a pointer says

-- only four bytes are set when a thread starts
set_by_thread : (addend : Bool) (form : FieldForm) (y z : ℤ)
    → (if addend then stored_by_thread form y else Ok None) ≡ Ok (Some z) → field_len form ≡ 4
set_by_thread false form y z e = absurd cc
set_by_thread true PaddedUnsigned y z e = absurd cc
set_by_thread true PaddedSigned y z e = absurd cc
set_by_thread true Word y z e = refl

four_bytes : (ty : RelocationType) (y z : ℤ) → deferred_value ty y ≡ Ok (Some z) → field_len (field_form ty) ≡ 4
four_bytes ty y z e = set_by_thread (has_addend ty) (field_form ty) y z e

word_there : (ty : RelocationType) (addend : ℤ) (a : WasmDataAddress) (z : ℤ)
    → deferred_at ty addend (Some a) ≡ Ok (Some z) → field_len (field_form ty) ≡ 4
word_there ty addend Missing z e = absurd cc
word_there ty addend (Placed place) z e = absurd cc
word_there ty addend Passive z e = absurd cc
word_there ty addend (TlsOffset place) z e = four_bytes ty (pos place +ℤ addend) z e

pub template_of : (p : FixupPlace) (a : WasmDataAddress) (start : ℕ) → template_at p a ≡ Some start
    → (p ≡ Segment) × (a ≡ TlsOffset start)
template_of Code a start e = absurd cc
template_of Segment Missing start e = absurd cc
template_of Segment (Placed place) start e = absurd cc
template_of Segment Passive start e = absurd cc
template_of Segment (TlsOffset place) start e = (refl, (let same : place ≡ start = cc in ap (λ (n : ℕ). TlsOffset n) same))

start_of_template : (l : SegmentLayout) (start : ℕ) → start_of l ≡ TlsOffset start
    → (l.tls_template ≡ true) × (l.output_memory_offset ≡ start)
start_of_template l start e = at (lies_in_memory l) l.tls_template refl e
  where
    at : (m t : Bool) → l.tls_template ≡ t
        → (if m then Placed l.output_memory_offset else if t then TlsOffset l.output_memory_offset else Passive) ≡ TlsOffset start
        → (l.tls_template ≡ true) × (l.output_memory_offset ≡ start)
    at true t is h = absurd cc
    at false true is h = (is, (let same : l.output_memory_offset ≡ start = cc in same))
    at false false is h = absurd cc

start_among : (found : Option SegmentLayout) (start : ℕ) → option_map_or start_of found Missing ≡ TlsOffset start
    → (l : SegmentLayout) × (found ≡ Some l) × (start_of l ≡ TlsOffset start)
start_among None start e = absurd cc
start_among (Some l) start e = (l, refl, e)

-- what a pointer of a relocation is
pub record IsPointer (g : Placing) (r : Relocated) (f : TlsPointerFixup) : Type 0 where
  pub place_is : r.place ≡ Segment
  pub start : ℕ
  pub begins : segment_start (layouts_of g r.object) r.site.unit ≡ TlsOffset start
  pub dest : f.dest ≡ start + r.site.position
  pub four : field_len (field_form r.relocation.ty) ≡ 4

pointer_by_start : (input : Input) (g : Placing) (r : Relocated) (f : TlsPointerFixup) (start : Option ℕ)
    → template_start g r ≡ start
    → option_and_then (λ (n : ℕ). pointer_at r n (option_map_or
    (λ (m : ℕ). deferred_at r.relocation.ty r.relocation.addend (Some (address_named input g r))) start (Ok None))) start ≡ Some f
    → IsPointer g r f
pointer_by_start input g r f None is e = absurd cc
pointer_by_start input g r f (Some start) is e =
    at (deferred_at r.relocation.ty r.relocation.addend (Some (address_named input g r))) refl e
  where
    at : (named : Result (Option ℤ) RelocError)
        → deferred_at r.relocation.ty r.relocation.addend (Some (address_named input g r)) ≡ named
        → pointer_at r start named ≡ Some f → IsPointer g r f
    at (Err why) n h = absurd cc
    at (Ok None) n h = absurd cc
    at (Ok (Some offset)) n h =
        let t = template_of r.place (segment_start (layouts_of g r.object) r.site.unit) start is in
        let same : record { dest = start + r.site.position; offset = offset } ≡ f = cc in
        record {
          place_is = t.0;
          start = start;
          begins = t.1;
          dest = ap (λ (x : TlsPointerFixup). x.dest) (sym same);
          four = word_there r.relocation.ty r.relocation.addend (address_named input g r) offset n;
        }

pub pointer_is : (input : Input) (g : Placing) (r : Relocated) (f : TlsPointerFixup)
    → pointer_of input g r ≡ Some f → IsPointer g r f
pointer_is input g r f e = pointer_by_start input g r f (template_start g r) refl e

-- ---- where it stands

-- the template in which it lies
pub record IsInTemplate (g : Placing) (r : Relocated) (f : TlsPointerFixup) : Type 0 where
  pub place_is : r.place ≡ Segment
  pub layout : SegmentLayout
  pub place : ℕ
  pub here : slice_get (in_one_row g.places.layouts) place ≡ Some layout
  pub number : slice_get (segment_space g) place ≡ Some (r.object, r.site.unit)
  pub template : layout.tls_template ≡ true
  pub dest : f.dest ≡ layout.output_memory_offset + r.site.position
  pub within : r.site.position + 4 ≤ length layout.payload
  pub four : field_len (field_form r.relocation.ty) ≡ 4

pub in_template : WholeFit → SegmentsHaveLayouts → (input : Input) (g : Placing) (r : Relocated)
    (f : TlsPointerFixup) → AllByRecursion IsWhole input.link.objects → IsPlacing input g
    → Contains (relocations input) r → pointer_of input g r ≡ Some f → IsInTemplate g r f
in_template fits law input g r f whole placed kept e =
    let p = pointer_is input g r f e in
    let s = in_segment fits input r whole kept p.place_is in
    let among = start_among (segment_among (layouts_of g r.object) r.site.unit) p.start p.begins in
    let l = among.0 in
    let at = find_at (λ (x : SegmentLayout). x.segment_index == r.site.unit) (layouts_of g r.object) l among.1 in
    let number : l.segment_index ≡ r.site.unit = eqb-true l.segment_index r.site.unit at.2 in
    let begins = start_of_template l p.start among.2 in
    let layouts = g.places.layouts in
    let have : AllZip (HaveLayouts (data_options input)) (segments_from input 0 input.link.objects) layouts =
    law (data_input input) g.places placed.laid in
    let rows = zip_right (HaveLayouts (data_options input)) (segments_from input 0 input.link.objects) layouts
    r.object (kept_segments input (0 + r.object) s.o) have (segments_at input 0 r.object input.link.objects s.o s.here) in
    let row : List SegmentLayout = rows.0 in
    let listed : slice_get layouts r.object ≡ Some row = rows.1 in
    let own : layouts_of g r.object ≡ row = index_is layouts r.object row listed in
    let stands : slice_get row at.0 ≡ Some l = subst (λ (xs : List SegmentLayout). slice_get xs at.0 ≡ Some l) own at.1 in
    let bytes = laid_bytes input (data_options input) (0 + r.object) s.o row at.0 r.site.unit l s.segment rows.2 stands number s.there in
    let w = in_row 0 layouts r.object row at.0 l listed stands in
    let first : ◌≡◌ {A = ℕ × ℕ} (0 + r.object, l.segment_index) (r.object, r.site.unit) = pair_is (0 + r.object) r.object l.segment_index r.site.unit (omega arith) number in
    record {
      place_is = p.place_is;
      layout = l;
      place = w.place;
      here = w.here;
      number = w.number ∙ ap (λ (x : ℕ × ℕ). Some x) first;
      template = begins.0;
      dest = p.dest ∙ ap (λ (n : ℕ). n + r.site.position) (sym begins.1);
      within = (let count = ap length bytes in omega (arith, s.within, p.four, count));
      four = p.four;
    }
  where
    index_is : {X : Type 0} (xs : List (List X)) (k : ℕ) (x : List X) → slice_get xs k ≡ Some x → slice_index_or xs k [] ≡ x
    index_is [] k x h = absurd cc
    index_is (y ∷ xs) zero x h = cc
    index_is (y ∷ xs) (suc k) x h = index_is xs k x h

    pair_is : (a b c d : ℕ) → a ≡ b → c ≡ d → ◌≡◌ {A = ℕ × ℕ} (a, c) (b, d)
    pair_is a b c d x y = ap (λ (n : ℕ). (n, c)) x ∙ ap (λ (n : ℕ). (b, n)) y

-- ---- all of them

filter_all : {X Y : Type 0} (f : X → Option Y) (Q : X → Type 0) (P : Y → Type 0) (xs : List X)
    → AllByRecursion Q xs → ((x : X) (y : Y) → Q x → f x ≡ Some y → P y)
    → AllByRecursion P (filter_map f xs)
filter_all f Q P [] q h = tt
filter_all f Q P (x ∷ xs) q h = at (f x) refl (filter_all f Q P xs q.1 h)
  where
    at : (o : Option _) → f x ≡ o → AllByRecursion P (filter_map f xs) → AllByRecursion P (cons_option o (filter_map f xs))
    at None e rest = rest
    at (Some y) e rest = (h x y q.0 e, rest)

all_in : {X : Type 0} (P : X → Type 0) (xs : List X) → ((x : X) → Contains xs x → P x) → AllByRecursion P xs
all_in P [] f = tt
all_in P (x ∷ xs) f =
    (f x (zero, omega arith, refl), all_in P xs (λ y c. f y (suc c.0, omega (arith, c.1), c.2)))

-- each pointer of the relocation lies in a template
abbrev pub PointsInside : Input → Placing → Relocated → Type 0
PointsInside input g r = (f : TlsPointerFixup) → pointer_of input g r ≡ Some f → IsInTemplate g r f

pub all_inside : WholeFit → SegmentsHaveLayouts → (input : Input) (g : Placing)
    → AllByRecursion IsWhole input.link.objects → IsPlacing input g
    → AllByRecursion (PointsInside input g) (relocations input)
all_inside fits law input g whole placed =
    all_in (PointsInside input g) (relocations input) (λ r kept f e. in_template fits law input g r f whole placed kept e)

-- they lie in the block
pub pointers_within : (input : Input) (g : Placing) → AllByRecursion (PointsInside input g) (relocations input)
    → EndBy is_template g.places.tls_size (in_one_row g.places.layouts)
    → AllByRecursion (λ (f : TlsPointerFixup). f.dest + 4 ≤ g.places.tls_size) (tls_pointers input g)
pointers_within input g inside ends =
    filter_all (pointer_of input g) (PointsInside input g) (λ (f : TlsPointerFixup). f.dest + 4 ≤ g.places.tls_size)
    (relocations input) inside (λ r f q e.
    let t = q f e in
    let last = ends t.place t.layout t.here t.template in
    let dest = t.dest in
    let within = t.within in
    omega (arith, last, dest, within))

words_share_none : (g : Placing) (r q : Relocated) (f h : TlsPointerFixup) → IsInTemplate g r f
    → IsInTemplate g q h → r.place ≡ q.place → EndsBefore r q → AreSeparate is_template (in_one_row g.places.layouts)
    → ShareNoByte f.dest 4 h.dest 4
words_share_none g r q f h a b place before separate = elim (cases_eq a.place b.place) [
  | inl e ↦
      let there : slice_get (in_one_row g.places.layouts) b.place ≡ Some a.layout =
      subst (λ (n : ℕ). slice_get (in_one_row g.places.layouts) n ≡ Some a.layout) e a.here in
      let one : slice_get (in_one_row g.places.layouts) b.place ≡ Some b.layout = b.here in
      let layout : a.layout ≡ b.layout = cc in
      let offset : (a.layout).output_memory_offset ≡ (b.layout).output_memory_offset =
      ap (λ (l : SegmentLayout). l.output_memory_offset) layout in
      let first : slice_get (segment_space g) b.place ≡ Some (r.object, r.site.unit) =
      subst (λ (n : ℕ). slice_get (segment_space g) n ≡ Some (r.object, r.site.unit)) e a.number in
      let second : slice_get (segment_space g) b.place ≡ Some (q.object, q.site.unit) = b.number in
      let pair : ◌≡◌ {A = ℕ × ℕ} (r.object, r.site.unit) (q.object, q.site.unit) = cc in
      let object : r.object ≡ q.object = ap (λ (p : ℕ × ℕ). p.0) pair in
      let number : r.site.unit ≡ q.site.unit = ap (λ (p : ℕ × ℕ). p.1) pair in
      let le = before object place number in
      let dest = a.dest in
      let other = b.dest in
      let four = a.four in
      inl (omega (arith, le, dest, other, offset, four))
  | inr n ↦
      let dest = a.dest in
      let other = b.dest in
      let in_a = a.within in
      let in_b = b.within in
      elim (separate a.place b.place a.layout b.layout n a.here b.here a.template b.template) [
        | inl le ↦ inl (omega (arith, le, dest, other, in_a, in_b))
        | inr le ↦ inr (omega (arith, le, dest, other, in_a, in_b))
      ]
]

words_apart_from : (input : Input) (g : Placing) (rs : List Relocated)
    → AllByRecursion (PointsInside input g) rs → AllLater EndsBefore rs
    → AreSeparate is_template (in_one_row g.places.layouts)
    → AreWordsApart (filter_map (pointer_of input g) rs)
words_apart_from input g [] inside later separate = tt
words_apart_from input g (r ∷ rs) inside later separate =
    at (pointer_of input g r) refl (words_apart_from input g rs inside.1 later.1 separate)
  where
    both : (xs : List Relocated) → AllByRecursion (PointsInside input g) xs → AllByRecursion (EndsBefore r) xs
        → AllByRecursion (λ (q : Relocated). PointsInside input g q × EndsBefore r q) xs
    both [] p q = tt
    both (x ∷ xs) p q = ((p.0, q.0), both xs p.1 q.1)

    at : (o : Option TlsPointerFixup) → pointer_of input g r ≡ o
        → AreWordsApart (filter_map (pointer_of input g) rs)
        → AreWordsApart (cons_option o (filter_map (pointer_of input g) rs))
    at None e rest = rest
    at (Some f) e rest = (
      filter_all (pointer_of input g) (λ (q : Relocated). PointsInside input g q × EndsBefore r q)
          (λ (h : TlsPointerFixup). ShareNoByte f.dest 4 h.dest 4) rs (both rs inside.1 later.0)
          (λ q h known is.
          let a = inside.0 f e in
          let b = known.0 h is in
          words_share_none g r q f h a b (a.place_is ∙ sym b.place_is) known.1 separate),
      rest,
    )

-- no two share a byte
pub pointers_apart : WholeFit → (input : Input) (g : Placing) → AllByRecursion IsWhole input.link.objects
    → AllByRecursion (PointsInside input g) (relocations input)
    → AreSeparate is_template (in_one_row g.places.layouts) → AreWordsApart (tls_pointers input g)
pointers_apart fits input g whole inside separate =
    words_apart_from input g (relocations input) inside
    (all_later input.live 0 input.link.objects (all_fitting fits input.link.objects whole)) separate
