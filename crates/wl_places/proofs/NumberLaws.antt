-- Which number each segment of an object has in the output.
use Rattle.std.proofs.Common.{◌≡◌, ◌∙◌, ◌≤◌, ◌<◌, ℕ, zero, suc, ◌+◌, true, false, ◌==◌, List, [], ◌∷◌, length, map, refl, sym, ap, subst, arith, inl, inr, Option, Some, None, slice_get, slice_index_or, position, eqb-true, ltb-true}
use Rattle.std.specs.List.{range_with_len}
use Rattle.std.proofs.lemmas.Bool.{cases_Bool, and_parts}
use Rattle.std.proofs.lemmas.List.{length-map}
use Rattle.std.proofs.lemmas.Option.{slice_get_within}
use Rattle.wl_index.specs.declared.index.TheConstants.{WASM_DEAD_INDEX, MAX_ENTRIES}
use Rattle.wl_linking.specs.Object.{Object}
use Rattle.wl_symbols.specs.Live.{IsLiveOf}
use Rattle.wl_symbols.specs.Units.{counts_of, units_of, units_at, exists, unit_number}
use Rattle.wl_symbols.specs.declared.units.LinkUnit.{LinkUnit}
use Rattle.wl_symbols.specs.declared.units.UnitCounts.{UnitCounts}
use Rattle.wl_symbols.specs.declared.units.WasmGcUnit.TheVariants.{DataSegment}
use Rattle.wl_ops.specs.Rewriting.{flattened, new_index}
use Rattle.wl_index.specs.declared.index_map.WasmObjectIndexMap.{WasmObjectIndexMap}
use Rattle.wl_symbols.specs.Input.{Input, keeps}
use Rattle.wl_bind.specs.Parts.{IsIndexOf}
use Rattle.wl_places.specs.Addresses.{segment_space, segment_entry, local_segments, AreSegmentIndices}
use Rattle.wl_places.specs.SegmentNumbers.{same_segment, new_number, unless_dead, AreNewNumbers, AreAllNumbers}
use Rattle.wl_places.specs.IndexedMaps.{IsWholeMap, AreWholeMaps}
use Rattle.wl_places.specs.Placing.{IsPlacing}
use Rattle.wl_places.specs.declared.placing.Placing.{Placing}
use Rattle.wl_lists.proofs.Beside.{zip_right, zip_left}
use Rattle.wl_lists.proofs.Places.{came_at, mapped_at, range_at}
use Rattle.wl_lists.proofs.Rows.{rows_length, row_of}
use Rattle.wl_places.proofs.SegmentLaws.{place_is}
use Rattle.wl_places.proofs.SmallLaws.{SegmentsHaveLayouts}

-- ---- lists

range_back : {Y : Type 0} (f : ℕ → Y) (a n k : ℕ) (y : Y)
    → slice_get (map f (range_with_len a n)) k ≡ Some y → y ≡ f (a + k)
range_back f a zero k y here = absurd cc
range_back f a (suc n) zero y here =
    let e : a ≡ a + 0 = omega arith in
    let same : f a ≡ y = cc in
    sym same ∙ ap f e
range_back f a (suc n) (suc k) y here =
    let e : (a + 1) + k ≡ a + suc k = omega arith in
    range_back f (a + 1) n k y here ∙ ap f e

map_none : {X Y : Type 0} (f : X → Y) (xs : List X) (i : ℕ) → slice_get xs i ≡ None
    → slice_get (map f xs) i ≡ None
map_none f [] i here = refl
map_none f (y ∷ xs) zero here = absurd cc
map_none f (y ∷ xs) (suc i) here = map_none f xs i here

-- ---- units

pub counts_at : (objects : List Object) (object : ℕ) (o : Object) → slice_get objects object ≡ Some o
    → units_at (units_of objects) object ≡ counts_of o
counts_at [] object o here = absurd cc
counts_at (p ∷ objects) zero o here = let same : p ≡ o = cc in ap counts_of same
counts_at (p ∷ objects) (suc object) o here = counts_at objects object o here

-- a kept segment is one of the object's
pub kept_within : (input : Input) (object : ℕ) (o : Object) (number : ℕ)
    → IsLiveOf input.link input.live → slice_get input.link.objects object ≡ Some o
    → keeps input object (DataSegment number) ≡ true → number < length o.segments
kept_within input object o number live here kept =
    let u : LinkUnit = record { object = object; unit = DataSegment number } in
    let there : exists input.live.units u ≡ true =
    (and_parts (exists input.live.units u) (slice_index_or input.live.marks (unit_number input.live.units u) false) kept).0 in
    let among : exists (units_of input.link.objects) u ≡ true =
    subst (λ (ns : List UnitCounts). exists ns u ≡ true) live.units there in
    ltb-true number (length o.segments) (rw (counts_at input.link.objects object o here) at among)

-- ---- an object

new_at : (indices : List ℕ) (number index : ℕ) → slice_get indices number ≡ Some index
    → new_index (map unless_dead indices) number ≡ unless_dead index
new_at indices number index here = ap flattened (mapped_at unless_dead indices number index here)

new_none : (indices : List ℕ) (number : ℕ) → slice_get indices number ≡ None
    → new_index (map unless_dead indices) number ≡ None
new_none indices number here = ap flattened (map_none unless_dead indices number here)

kept_is : (index : ℕ) → index < MAX_ENTRIES → unless_dead index ≡ Some index
kept_is index lt = elim (cases_Bool (index == WASM_DEAD_INDEX)) [
  | inl dead ↦
      let e : index ≡ WASM_DEAD_INDEX = eqb-true index WASM_DEAD_INDEX dead in
      absurd (omega (arith, e, lt))
  | inr live ↦ rw live refl
]

dead_is : unless_dead WASM_DEAD_INDEX ≡ None
dead_is = refl

-- a kept segment has a number
record HasNumber (input : Input) (g : Placing) (object : ℕ) (indices : List ℕ) (number : ℕ)
    : Type 0 where
  pub index : ℕ
  pub there : new_index (map unless_dead indices) number ≡ Some index
  pub is : new_number input g object number ≡ Some index

entry_kept : (input : Input) (object number : ℕ) → keeps input object (DataSegment number) ≡ true
    → segment_entry input object number ≡ Some (object, number)
entry_kept input object number kept = rw kept refl

entry_left : (input : Input) (object number : ℕ) → keeps input object (DataSegment number) ≡ false
    → segment_entry input object number ≡ None
entry_left input object number left = rw left refl

new_is : (input : Input) (g : Placing) (object number index : ℕ)
    → keeps input object (DataSegment number) ≡ true
    → position (same_segment (object, number)) (segment_space g) ≡ Some index
    → new_number input g object number ≡ Some index
new_is input g object number index kept place = rw kept place

has_number : SegmentsHaveLayouts → (input : Input) (g : Placing) (object : ℕ) (o : Object)
    (indices : List ℕ) (number : ℕ) → IsPlacing input g → length (segment_space g) ≤ MAX_ENTRIES
    → IsLiveOf input.link input.live → slice_get input.link.objects object ≡ Some o
    → AreSegmentIndices input g object o indices
    → keeps input object (DataSegment number) ≡ true → HasNumber input g object indices number
has_number law input g object o indices number placed room live here are kept =
    let space : List (ℕ × ℕ) = segment_space g in
    let lt : number < length o.segments = kept_within input object o number live here kept in
    let e : 0 + number ≡ number = omega arith in
    let entry : slice_get (local_segments input object o) number ≡ Some (Some (object, number)) =
    range_at (segment_entry input object) 0 (length o.segments) number lt
    ∙ (ap (λ n. Some (segment_entry input object n)) e
    ∙ ap (λ (x : Option (ℕ × ℕ)). Some x) (entry_kept input object number kept)) in
    let z = zip_right (IsIndexOf space) (local_segments input object o) indices number
    (Some (object, number)) are entry in
    let within : z.0 < length space = slice_get_within space z.0 (object, number) z.2 in
    record {
      index = z.0;
      there = new_at indices number z.0 z.1 ∙ kept_is z.0 (omega (arith, within, room));
      is = new_is input g object number z.0 kept (place_is law input g placed z.0 (object, number) z.2);
    }

left_number : (input : Input) (g : Placing) (object : ℕ) (o : Object) (indices : List ℕ)
    (number : ℕ) → AreSegmentIndices input g object o indices
    → keeps input object (DataSegment number) ≡ false
    → new_index (map unless_dead indices) number ≡ None
left_number input g object o indices number are left = by_index (slice_get indices number) refl
  where
    by_index : (found : Option ℕ) → slice_get indices number ≡ found
        → new_index (map unless_dead indices) number ≡ None
    by_index None here = new_none indices number here
    by_index (Some index) here =
        let z = zip_left (IsIndexOf (segment_space g)) (local_segments input object o) indices number
        index are here in
        let e : 0 + number ≡ number = omega arith in
        let entry : z.0 ≡ None =
        range_back (segment_entry input object) 0 (length o.segments) number z.0 z.1
        ∙ (ap (segment_entry input object) e ∙ entry_left input object number left) in
        let dead : index ≡ WASM_DEAD_INDEX =
        subst (λ (x : Option (ℕ × ℕ)). IsIndexOf (segment_space g) x index) entry z.2 in
        new_at indices number index here ∙ (ap unless_dead dead ∙ dead_is)

-- the list has the numbers that segments of the object have
new_numbers : SegmentsHaveLayouts → (input : Input) (g : Placing) (object : ℕ) (o : Object)
    (indices : List ℕ) → IsPlacing input g → length (segment_space g) ≤ MAX_ENTRIES
    → IsLiveOf input.link input.live → slice_get input.link.objects object ≡ Some o
    → AreSegmentIndices input g object o indices
    → AreNewNumbers input g object (map unless_dead indices)
new_numbers law input g object o indices placed room live here are = record {
  each = λ number. elim (cases_Bool (keeps input object (DataSegment number))) [
    | inl kept ↦
        let h = has_number law input g object o indices number placed room live here are kept in
        h.there ∙ sym h.is
    | inr left ↦ rw left (left_number input g object o indices number are left)
  ];
  kept = λ number kept none.
      let h = has_number law input g object o indices number placed room live here are kept in
      let some : Some h.index ≡ None = sym h.there ∙ none in
      absurd (cc some);
}

-- ---- all objects

-- the numbers of an object, by its map
abbrev pub numbers_of : WasmObjectIndexMap → List (Option ℕ)
numbers_of m = map unless_dead m.segment_indices

-- so it is with each object
pub all_numbered : SegmentsHaveLayouts → (input : Input) (g : Placing)
    (maps : List WasmObjectIndexMap) → IsPlacing input g
    → length (segment_space g) ≤ MAX_ENTRIES → IsLiveOf input.link input.live
    → AreWholeMaps input g maps → AreAllNumbers input g (map numbers_of maps)
all_numbered law input g maps placed room live are = record {
  len = length-map maps numbers_of ∙ rows_length (IsWholeMap input g) 0 input.link.objects maps are;
  each = λ object row here.
      let m = came_at numbers_of maps object row here in
      let r = row_of (IsWholeMap input g) 0 input.link.objects maps object m.0 are m.1 in
      let e : 0 + object ≡ object = omega arith in
      let map_is : IsWholeMap input g object r.0 m.0 =
      subst (λ n. IsWholeMap input g n r.0 m.0) e r.2 in
      subst (λ (ns : List (Option ℕ)). AreNewNumbers input g object ns) m.2
      (new_numbers law input g object r.0 (m.0).segment_indices placed room live r.1
      map_is.segments);
}
