-- Fields that are known when a thread starts are the pointers of its block.
use Rattle.std.proofs.Common.{◌≡◌, ◌∙◌, ◌≤◌, ◌<◌, ℕ, ℤ, ◌+◌, ◌++◌, false, List, [], ◌∷◌, length, drop, get_or, refl, sym, ap, subst, arith, Option, Some, None, Contains, slice_get}
use Rattle.std.proofs.lemmas.List.{get_or_default}
use Rattle.std.proofs.lemmas.Option.{slice_get-get_or, slice_get_within}
use Rattle.std.specs.Prelude.{Result, Ok, Err}
use Rattle.std.specs.List.{AllByRecursion, AllZip, filter_map, cons_option, slice_index_or}
use Rattle.std.specs.Option.{option_map_or, option_and_then, option_to_list}
use Rattle.wl_custom.specs.declared.relocation_type.RelocationType.{RelocationType}
use Rattle.wl_data.specs.DataPlaces.{DataInput, EndBy, IsDataPlaces, in_one_row, is_template}
use Rattle.wl_data.specs.Segments.{SegmentLayout}
use Rattle.wl_data.specs.declared.places.DataPlaces.{DataPlaces}
use Rattle.wl_index.specs.declared.data_address.WasmDataAddress.{WasmDataAddress}
use Rattle.wl_index.specs.declared.data_address.WasmDataAddress.TheVariants.{Missing, Placed, Passive, TlsOffset}
use Rattle.wl_reloc.specs.Addresses.{deferred_at}
use Rattle.wl_custom.specs.RelocationTypes.{taking_of}
use Rattle.wl_custom.specs.Takings.{is_address}
use Rattle.wl_reloc.specs.declared.error.RelocError.{RelocError}
use Rattle.wl_custom.specs.declared.takings.AddressBase.{AddressBase}
use Rattle.wl_custom.specs.declared.takings.Taking.{Taking}
use Rattle.wl_custom.specs.declared.takings.Taking.TheVariants.{FunctionIndex, Slot, SlotBehindBase, TypeIndex, GlobalIndex, TableNumber, Address}
use Rattle.wl_synth.specs.declared.parts.TlsPointerFixup.{TlsPointerFixup}
use Rattle.wl_symbols.specs.Input.{Input}
use Rattle.wl_symbols.specs.Relocations.{relocations}
use Rattle.wl_symbols.specs.declared.relocated.FixupPlace.{FixupPlace}
use Rattle.wl_symbols.specs.declared.relocated.FixupPlace.TheVariants.{Code, Segment}
use Rattle.wl_symbols.specs.declared.relocated.Relocated.{Relocated}
use Rattle.wl_linking.specs.Fitting.{IsWhole}
use Rattle.wl_places.specs.Addresses.{layouts_of, segment_start}
use Rattle.wl_places.specs.AddressSteps.{HasSegment}
use Rattle.wl_plan.specs.Bodies.{IsMovedAt}
use Rattle.wl_plan.specs.Fixups.{address_taken, addend_left, value_or_pointer, IsFixup, IsTaken, AreFixups}
use Rattle.wl_plan.specs.Plan.{IsPlan}
use Rattle.wl_places.specs.Placing.{IsPlacing, data_input}
use Rattle.wl_plan.specs.Resolved.{IsNumbered}
use Rattle.wl_plan.specs.Running.{IsPointerOf, pointer_to, pointer_by}
use Rattle.wl_plan.specs.steps.Threads.{IsFixupOf}
use Rattle.wl_plan.specs.Threads.{address_named, place_in_block, pointer_at, pointer_named, pointer_of, template_start, tls_pointers}
use Rattle.wl_output.specs.declared.fixups.Fixup.{Fixup}
use Rattle.wl_output.specs.declared.fixups.FixupTo.{FixupTo}
use Rattle.wl_output.specs.declared.fixups.FixupTo.TheVariants.{Value, Deferred}
use Rattle.wl_plan.specs.declared.layout.LinkPlan.{LinkPlan}
use Rattle.wl_places.specs.declared.placing.Placing.{Placing}
use Rattle.wl_lists.proofs.In.{at_is_in}
use Rattle.wl_lists.proofs.Beside.{zip_left}
use Rattle.wl_plan.proofs.PointerLaws.{in_segment, in_template, template_of}
use Rattle.wl_plan.proofs.PositionLaws.{WholeFit, stands as contained}
use Rattle.wl_places.proofs.SmallLaws.{SegmentsHaveLayouts}
use Rattle.wl_plan.proofs.ThreadLaws.{given_more}

-- ---- what a pointer that is named says of the field

abbrev Named : Type 0
Named = Result (Option ℤ) RelocError

value_has_none : (named : Named) (left : ℤ) (value : Result ℤ RelocError) (v : ℕ) (l : ℤ)
    → value_or_pointer named left value ≡ Ok (Value v l) → named ≡ Ok None
value_has_none (Err why) left value v l e = absurd cc
value_has_none (Ok (Some offset)) left value v l e = absurd cc
value_has_none (Ok None) left value v l e = refl

deferred_has_one : (named : Named) (left : ℤ) (value : Result ℤ RelocError) (offset : ℤ)
    → value_or_pointer named left value ≡ Ok (Deferred offset) → named ≡ Ok (Some offset)
deferred_has_one (Err why) left value offset e = absurd cc
deferred_has_one (Ok (Some other)) left value offset e =
    let same : other ≡ offset = cc in ap (λ (z : ℤ). Ok (Some z)) same
deferred_has_one (Ok None) left (Err why) offset e = absurd cc
deferred_has_one (Ok None) left (Ok z) offset e = absurd cc

-- a field that takes no address of data names no place in the block
no_address : (taking : Taking) → ((base : AddressBase) → taking ≡ Address base → ⊥)
    → is_address taking ≡ false
no_address FunctionIndex never = refl
no_address Slot never = refl
no_address SlotBehindBase never = refl
no_address TypeIndex never = refl
no_address GlobalIndex never = refl
no_address TableNumber never = refl
no_address (Address base) never = absurd (never base refl)

no_place : (ty : RelocationType) (addend : ℤ) (a : WasmDataAddress)
    → ((base : AddressBase) → taking_of ty ≡ Address base → ⊥) → deferred_at ty addend (Some a) ≡ Ok None
no_place ty addend Missing never = refl
no_place ty addend (Placed place) never = refl
no_place ty addend Passive never = refl
no_place ty addend (TlsOffset place) never = rw (no_address (taking_of ty) never) refl

pub none_named : (input : Input) (g : Placing) (r : Relocated)
    → ((base : AddressBase) → taking_of r.relocation.ty ≡ Address base → ⊥)
    → pointer_named input g r ≡ Ok None
none_named input g r never = at (template_start g r)
  where
    at : (start : Option ℕ) → option_map_or (λ (n : ℕ). deferred_at r.relocation.ty r.relocation.addend
        (Some (address_named input g r))) start (Ok None) ≡ Ok None
    at None = refl
    at (Some n) = no_place r.relocation.ty r.relocation.addend (address_named input g r) never

value_names : (input : Input) (g : Placing) (r : Relocated) (taking : Taking) (v : ℕ) (l : ℤ)
    → taking_of r.relocation.ty ≡ taking → IsTaken input g r taking (Value v l)
    → pointer_named input g r ≡ Ok None
value_names input g r (Address base) v l is h =
    value_has_none (pointer_named input g r) (addend_left base (address_named input g r) r.relocation.addend)
    (address_taken input g r base) v l h
value_names input g r TypeIndex v l is h =
    none_named input g r (λ base e. absurd (let bad : ◌≡◌ {A = Taking} TypeIndex (Address base) = sym is ∙ e in cc))
value_names input g r FunctionIndex v l is h =
    none_named input g r (λ base e. absurd (let bad : ◌≡◌ {A = Taking} FunctionIndex (Address base) = sym is ∙ e in cc))
value_names input g r Slot v l is h =
    none_named input g r (λ base e. absurd (let bad : ◌≡◌ {A = Taking} Slot (Address base) = sym is ∙ e in cc))
value_names input g r SlotBehindBase v l is h =
    none_named input g r (λ base e. absurd (let bad : ◌≡◌ {A = Taking} SlotBehindBase (Address base) = sym is ∙ e in cc))
value_names input g r GlobalIndex v l is h =
    none_named input g r (λ base e. absurd (let bad : ◌≡◌ {A = Taking} GlobalIndex (Address base) = sym is ∙ e in cc))
value_names input g r TableNumber v l is h =
    none_named input g r (λ base e. absurd (let bad : ◌≡◌ {A = Taking} TableNumber (Address base) = sym is ∙ e in cc))

deferred_names : (input : Input) (g : Placing) (r : Relocated) (taking : Taking) (offset : ℤ)
    → IsTaken input g r taking (Deferred offset) → pointer_named input g r ≡ Ok (Some offset)
deferred_names input g r (Address base) offset h =
    deferred_has_one (pointer_named input g r) (addend_left base (address_named input g r) r.relocation.addend)
    (address_taken input g r base) offset h
deferred_names input g r TypeIndex offset h = absurd h
deferred_names input g r FunctionIndex offset h = absurd h
deferred_names input g r Slot offset h = absurd h
deferred_names input g r SlotBehindBase offset h = absurd h
deferred_names input g r GlobalIndex offset h = absurd h
deferred_names input g r TableNumber offset h = absurd h

-- ---- the pointer of a fixup

-- the place in the block where its segment begins
abbrev pub start_there : Placing → Fixup → Option ℕ
start_there g f = place_in_block (segment_start (layouts_of g f.object) f.unit)

no_pointer : (input : Input) (g : Placing) (r : Relocated) → pointer_named input g r ≡ Ok None → pointer_of input g r ≡ None
no_pointer input g r none = at (template_start g r)
  where
    at : (start : Option ℕ) → option_and_then (λ (n : ℕ). pointer_at r n (pointer_named input g r)) start ≡ None
    at None = refl
    at (Some n) = ap (pointer_at r n) none

pub value_has_no_pointer : (f : Fixup) (start : Option ℕ) (v : ℕ) (l : ℤ) → pointer_to f start (Value v l) ≡ None
value_has_no_pointer f None v l = refl
value_has_no_pointer f (Some start) v l = refl

some_start : (input : Input) (g : Placing) (r : Relocated) (start : Option ℕ) (offset : ℤ)
    → option_map_or (λ (n : ℕ). deferred_at r.relocation.ty r.relocation.addend
    (Some (address_named input g r))) start (Ok None) ≡ Ok (Some offset)
    → (n : ℕ) × (start ≡ Some n)
some_start input g r None offset e = absurd cc
some_start input g r (Some n) offset e = (n, refl)

moved_there : (input : Input) (g : Placing) (r : Relocated) (place : FixupPlace) (new : ℕ) → place ≡ Segment
    → IsMovedAt input g place r new → new ≡ r.site.position
moved_there input g r Segment new is h = h
moved_there input g r Code new is h = absurd (let bad : Code ≡ Segment = is in cc)

pointer_for : (input : Input) (g : Placing) (r : Relocated) (f : Fixup) (to : FixupTo) → f.to ≡ to
    → IsFixup input g r f → pointer_of input g r ≡ pointer_to f (start_there g f) to
pointer_for input g r f (Value v l) is h =
    let takes = subst (λ (t : FixupTo). IsTaken input g r (taking_of r.relocation.ty) t) is h.to in
    no_pointer input g r (value_names input g r (taking_of r.relocation.ty) v l refl takes)
    ∙ sym (value_has_no_pointer f (start_there g f) v l)
pointer_for input g r f (Deferred offset) is h =
    let takes = subst (λ (t : FixupTo). IsTaken input g r (taking_of r.relocation.ty) t) is h.to in
    let named = deferred_names input g r (taking_of r.relocation.ty) offset takes in
    let start = some_start input g r (template_start g r) offset named in
    let t = template_of r.place (segment_start (layouts_of g r.object) r.site.unit) start.0 start.1 in
    let own : start_there g f ≡ Some start.0 =
    ap (λ (n : ℕ). place_in_block (segment_start (layouts_of g n) f.unit)) h.object
    ∙ (ap (λ (n : ℕ). place_in_block (segment_start (layouts_of g r.object) n)) h.unit
    ∙ ap place_in_block t.1) in
    let position = moved_there input g r r.place f.position t.0 h.position in
    let left : pointer_of input g r ≡ Some (record { dest = start.0 + r.site.position; offset = offset }) =
    ap (option_and_then (λ (n : ℕ). pointer_at r n (pointer_named input g r))) start.1 ∙ ap (pointer_at r start.0) named in
    let right : pointer_to f (start_there g f) (Deferred offset) ≡ Some (record { dest = start.0 + f.position; offset = offset }) =
    ap (λ (o : Option ℕ). pointer_to f o (Deferred offset)) own in
    left ∙ (ap (λ (n : ℕ). Some (record { dest = start.0 + n; offset = offset })) (sym position) ∙ sym right)

pub pointer_of_fixup : (input : Input) (g : Placing) (r : Relocated) (f : Fixup) → IsFixup input g r f
    → pointer_of input g r ≡ pointer_to f (start_there g f) f.to
pointer_of_fixup input g r f h = pointer_for input g r f f.to refl h

-- ---- all of them

zip_filter : {A B C : Type 0} (R : A → B → Type 0) (p : A → Option C) (q : B → Option C) (xs : List A) (ys : List B)
    → AllZip R xs ys → ((x : A) (y : B) → R x y → p x ≡ q y) → filter_map p xs ≡ filter_map q ys
zip_filter R p q [] [] z f = refl
zip_filter R p q [] (y ∷ ys) z f = absurd z
zip_filter R p q (x ∷ xs) [] z f = absurd z
zip_filter {C = C} R p q (x ∷ xs) (y ∷ ys) z f =
    ap (λ (o : Option C). cons_option o (filter_map p xs)) (f x y z.0)
    ∙ ap (cons_option (q y)) (zip_filter R p q xs ys z.1 f)

pub pointers_of_fixups : (input : Input) (g : Placing) (fixups : List Fixup) → AreFixups input g fixups
    → tls_pointers input g ≡ filter_map (λ (f : Fixup). pointer_to f (start_there g f) f.to) fixups
pointers_of_fixups input g fixups are =
    zip_filter (IsFixup input g) (pointer_of input g) (λ (f : Fixup). pointer_to f (start_there g f) f.to)
    (relocations input) fixups are (pointer_of_fixup input g)

-- the same by the plan alone
pub by_layout : (input : Input) (plan : LinkPlan) (is : IsPlan input plan) (f : Fixup)
    → pointer_to f (start_there is.placing f) f.to ≡ pointer_by plan.layout f
by_layout input plan is f =
    ap (λ (ls : List (List SegmentLayout)). pointer_to f
    (place_in_block (segment_start (slice_index_or ls f.object []) f.unit)) f.to) (sym is.places.data_layouts)

pub pointers_of_plan : (input : Input) (plan : LinkPlan) (is : IsPlan input plan)
    → tls_pointers input is.placing ≡ filter_map (pointer_by plan.layout) plan.fixups
pointers_of_plan input plan is =
    zip_filter (IsFixup input is.placing) (pointer_of input is.placing) (pointer_by plan.layout)
    (relocations input) plan.fixups is.fixups
    (λ r f h. pointer_of_fixup input is.placing r f h ∙ by_layout input plan is f)

-- ---- one of them

pub deferred_pointer_of : WholeFit → SegmentsHaveLayouts
    → ((d : DataInput) (p : DataPlaces) → IsDataPlaces d p → EndBy is_template p.tls_size (in_one_row p.layouts))
    → (input : Input) (plan : LinkPlan) (is : IsPlan input plan) (f : Fixup) (offset : ℤ) → IsNumbered input
    → Contains plan.fixups f → f.to ≡ Deferred offset → IsPointerOf plan.layout f offset
deferred_pointer_of fits layouts block input plan is f offset numbered kept to =
    let g = is.placing in
    let at = contained plan.fixups f kept in
    let z = zip_left (IsFixup input g) (relocations input) plan.fixups at.0 f is.fixups at.1 in
    let r = z.0 in
    let h = z.2 in
    let listed = at_is_in (relocations input) at.0 r z.1 in
    let takes = subst (λ (t : FixupTo). IsTaken input g r (taking_of r.relocation.ty) t) to h.to in
    let named = deferred_names input g r (taking_of r.relocation.ty) offset takes in
    let start = some_start input g r (template_start g r) offset named in
    let p : TlsPointerFixup = record { dest = start.0 + r.site.position; offset = offset } in
    let is_p : pointer_of input g r ≡ Some p =
    ap (option_and_then (λ (n : ℕ). pointer_at r n (pointer_named input g r))) start.1 ∙ ap (pointer_at r start.0) named in
    let t = in_template fits layouts input g r p numbered.whole is.placed listed is_p in
    let last = block (data_input input) g.places is.placed.laid t.place t.layout t.here t.template in
    let size : plan.layout.tls_size ≡ g.places.tls_size = is.places.tls_size in
    let dest : start.0 + r.site.position ≡ (t.layout).output_memory_offset + r.site.position = t.dest in
    let within = t.within in
    record {
      pointer = p;
      is = sym (by_layout input plan is f) ∙ (sym (pointer_of_fixup input g r f h) ∙ is_p);
      offset_is = refl;
      within = omega (arith, last, size, dest, within);
    }

-- ---- where the pointer of a fixup lies

pub record IsPlacedPointer (input : Input) (g : Placing) (f : Fixup) : Type 0 where
  pub has : HasSegment input.link.objects f.object f.unit
  pub start : ℕ
  pub begins : start_there g f ≡ Some start
  pub within : start + f.position + 4 ≤ g.places.tls_size

pub placed_pointer : WholeFit → SegmentsHaveLayouts
    → ((d : DataInput) (p : DataPlaces) → IsDataPlaces d p → EndBy is_template p.tls_size (in_one_row p.layouts))
    → (input : Input) (g : Placing) (r : Relocated) (f : Fixup) (offset : ℤ) → AllByRecursion IsWhole input.link.objects
    → IsPlacing input g → Contains (relocations input) r → IsFixup input g r f → f.to ≡ Deferred offset
    → IsPlacedPointer input g f
placed_pointer fits layouts block input g r f offset whole placed kept h to =
    let takes = subst (λ (t : FixupTo). IsTaken input g r (taking_of r.relocation.ty) t) to h.to in
    let named = deferred_names input g r (taking_of r.relocation.ty) offset takes in
    let start = some_start input g r (template_start g r) offset named in
    let place = template_of r.place (segment_start (layouts_of g r.object) r.site.unit) start.0 start.1 in
    let own : start_there g f ≡ Some start.0 =
    ap (λ (n : ℕ). place_in_block (segment_start (layouts_of g n) f.unit)) h.object
    ∙ (ap (λ (n : ℕ). place_in_block (segment_start (layouts_of g r.object) n)) h.unit
    ∙ ap place_in_block place.1) in
    let position = moved_there input g r r.place f.position place.0 h.position in
    let s = in_segment fits input r whole kept place.0 in
    let p : TlsPointerFixup = record { dest = start.0 + r.site.position; offset = offset } in
    let is_p : pointer_of input g r ≡ Some p =
    ap (option_and_then (λ (n : ℕ). pointer_at r n (pointer_named input g r))) start.1 ∙ ap (pointer_at r start.0) named in
    let t = in_template fits layouts input g r p whole placed kept is_p in
    let last = block (data_input input) g.places placed.laid t.place t.layout t.here t.template in
    let dest : start.0 + r.site.position ≡ (t.layout).output_memory_offset + r.site.position = t.dest in
    let within = t.within in
    let object = h.object in
    let number = h.unit in
    record {
      has = record {
        o = s.o;
        here = ap (λ (n : ℕ). slice_get input.link.objects n) object ∙ s.here;
        within = (let lt = slice_get_within (s.o).segments r.site.unit s.segment s.there in omega (arith, number, lt));
      };
      start = start.0;
      begins = own;
      within = omega (arith, last, dest, within, position);
    }

-- each fixup is that of a kept relocation
pub fixup_at : (input : Input) (g : Placing) (fixups : List Fixup) (k : ℕ) (d : Fixup) → AreFixups input g fixups
    → k < length fixups → IsFixupOf input g (get_or fixups k d)
fixup_at input g fixups k d are lt =
    let z = zip_left (IsFixup input g) (relocations input) fixups k (get_or fixups k d) are (slice_get-get_or fixups k d lt) in
    record { relocated = z.0; kept = at_is_in (relocations input) k z.0 z.1; is = z.2 }

pub pointers_more : (g : Placing) (fixups : List Fixup) (k : ℕ) (d : Fixup) (before after all : List TlsPointerFixup)
    → k < length fixups
    → after ≡ before ++ option_to_list (pointer_to (get_or fixups k d) (start_there g (get_or fixups k d)) (get_or fixups k d).to)
    → before ++ filter_map (λ (f : Fixup). pointer_to f (start_there g f) f.to) (drop k fixups) ≡ all
    → after ++ filter_map (λ (f : Fixup). pointer_to f (start_there g f) f.to) (drop (k + 1) fixups) ≡ all
pointers_more g fixups k d before after all lt more so_far =
    given_more (λ (f : Fixup). pointer_to f (start_there g f) f.to) fixups k (get_or fixups k d) before after all lt
    (get_or_default fixups k d (get_or fixups k d) lt) more so_far
