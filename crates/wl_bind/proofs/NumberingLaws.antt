-- The indices of what objects define, and of what their slots are resolved to.
use Rattle.std.proofs.Common.{◌≡◌, ◌∙◌, ◌≤◌, ◌<◌, ◌^◌, ℕ, zero, suc, ◌+◌, true, false, if◌then◌else◌, List, [], ◌∷◌, ◌++◌, length, map, take, get_or, refl, sym, ap, subst, arith, inl, inr, Some, None, slice_get, length-append}
use Rattle.std.specs.List.{AllZip, range_with_len}
use Rattle.std.proofs.lemmas.Bool.{cases_Bool}
use Rattle.std.proofs.lemmas.List.{take_more, length-map}
use Rattle.std.proofs.lemmas.Option.{slice_get_within, get_or_from_slice_get}
use Rattle.indexmap.proofs.SetLemmas.{AllZip-push}
use Rattle.wl_bytes.specs.declared.reader.TheConstants.{MAX_LEN}
use Rattle.wl_linking.specs.Object.{Object}
use Rattle.wl_linking.specs.declared.error.LinkError.{LinkError}
use Rattle.wl_custom.specs.declared.symbols.WasmSymbolKind.{WasmSymbolKind}
use Rattle.wl_custom.specs.declared.symbols.WasmSymbolKind.TheVariants.{Func, Global}
use Rattle.wl_symbols.specs.Live.{Live, is_live, ordinal_of, live_below, IsLiveOf}
use Rattle.wl_symbols.specs.Units.{units_of, exists, unit_index}
use Rattle.wl_symbols.specs.declared.units.LinkUnit.{LinkUnit}
use Rattle.wl_symbols.specs.declared.units.UnitCounts.{UnitCounts}
use Rattle.wl_symbols.specs.declared.units.WasmGcUnit.{WasmGcUnit}
use Rattle.wl_symbols.specs.declared.units.WasmGcUnit.TheVariants.{DefinedFunction, DefinedGlobal}
use Rattle.wl_symbols.specs.ImportSlots.{ImportSlot, object_slots, import_slots}
use Rattle.wl_index.specs.declared.index.TheConstants.{WASM_DEAD_INDEX, MAX_ENTRIES}
use Rattle.wl_bind.specs.FunctionSpace.{FunctionOf, function_parts, function_space, own_function_entry}
use Rattle.wl_bind.specs.GlobalSpace.{GlobalOf, global_parts, global_space, own_global_entry}
use Rattle.wl_symbols.specs.Input.{Input, keeps, keeps_slot}
use Rattle.wl_bind.specs.steps.Numbering.{IsNumbering}
use Rattle.wl_bind.specs.steps.Numbered.{firsts_of, HasRoom, FitsOwn, own_indices_of, HasIndex, IsResolvedIndex, resolution_of, HaveSlotIndices, IsSlotIndex}
use Rattle.wl_bind.specs.steps.OwnIndices.{own_unit, kept_own, firsts_from, own_index, kept_count, own_start, space_length}
use Rattle.wl_bind.specs.Parts.{joined, lengths_of, total, by_object, IsIndexOf, AreIndicesOf, IsOver}
use Rattle.wl_bind.specs.Resolutions.{resolutions, by_all_rules}
use Rattle.wl_bind.specs.Shared.{place_at}
use Rattle.wl_bind.specs.SpaceFaults.{AreTooMany, IsSpaceOver}
use Rattle.wl_bind.specs.declared.binding.FunctionTarget.TheVariants as function
use Rattle.wl_bind.specs.declared.binding.GlobalTarget.TheVariants as global
use Rattle.wl_bind.specs.declared.numbering.Numbering.{Numbering}
use Rattle.wl_bind.specs.declared.own_indices.Own.{Own}
use Rattle.wl_bind.specs.declared.own_indices.Own.TheVariants.{Functions, Globals}
use Rattle.wl_bind.specs.declared.resolution.ImportResolution.{ImportResolution}
use Rattle.wl_bind.specs.declared.resolution.ObjectImportResolutions.{ObjectImportResolutions}
use Rattle.wl_bind.proofs.HostLaws.{IsAt, placed, row_at, row_of}
use Rattle.wl_bind.proofs.IndexLaws.{over_as}
use Rattle.wl_bind.proofs.OwnLaws.{own_stands, firsts_length, live_exists}
use Rattle.wl_bind.proofs.PlaceLaws.{joined_length}
use Rattle.wl_lists.proofs.Splits.{splits}
use Rattle.std.specs.Option.{option_map}
use Rattle.wl_lists.proofs.Places.{mapped_at}

-- ---- lists, place by place

-- one more of each
pub zip_more : {A B : Type 0} (R : A → B → Type 0) (xs : List A) (ys new : List B) (k : ℕ) (y : B)
    → k < length xs → ((x : A) → slice_get xs k ≡ Some x → R x y) → new ≡ ys ++ y ∷ []
    → AllZip R (take k xs) ys → AllZip R (take (k + 1) xs) new
zip_more {A} {B} R xs ys new k y lt here pushed so_far =
    let s = splits xs k lt in
    let more : take (k + 1) xs ≡ take k xs ++ s.x ∷ [] =
    take_more xs k s.x lt ∙ ap (λ (x : A). take k xs ++ x ∷ []) (get_or_from_slice_get xs k s.x s.x s.here) in
    rw (more, pushed) (AllZip-push R (take k xs) ys s.x y so_far (here s.x s.here))

-- what is made of each of one list stands for what is made of each of another
pub zip_maps : {X A B : Type 0} (R : A → B → Type 0) (f : X → A) (g : X → B)
    → ((x : X) → R (f x) (g x)) → (xs : List X) → AllZip R (map f xs) (map g xs)
zip_maps R f g each [] = tt
zip_maps R f g each (x ∷ xs) = (each x, zip_maps R f g each xs)

pub zip_map : {X A B : Type 0} (R : X → B → Type 0) (S : A → B → Type 0) (f : X → A) (xs : List X) (ys : List B)
    → ((k : ℕ) (x : X) (y : B) → slice_get xs k ≡ Some x → R x y → S (f x) y)
    → AllZip R xs ys → AllZip S (map f xs) ys
zip_map R S f [] [] each zip = tt
zip_map R S f [] (y ∷ ys) each zip = zip
zip_map R S f (x ∷ xs) [] each zip = zip
zip_map R S f (x ∷ xs) (y ∷ ys) each zip =
    (each zero x y refl zip.0, zip_map R S f xs ys (λ k z w at r. each (suc k) z w at r) zip.1)

-- ---- what objects define

-- a live unit is one of an object
within : (objects : List Object) (object : ℕ) (unit : WasmGcUnit)
    → exists (units_of objects) (record { object = object; unit = unit }) ≡ true → object < length objects
within [] object (DefinedFunction k) is = absurd (grind (arith, is))
within [] object _ is = absurd (grind (arith, is))
within (o ∷ objects) zero unit is = omega arith
within (o ∷ objects) (suc object) unit is = let lt = within objects object unit is in omega (arith, lt)

pub live_within : (input : Input) (u : LinkUnit) → IsLiveOf input.link input.live → is_live input.live u ≡ true
    → u.object < length input.link.objects
live_within input u live is =
    within input.link.objects u.object u.unit
    (subst (λ (ns : List UnitCounts). exists ns u ≡ true) live.units (live_exists input.live u is))

-- the ordinal of a live unit
pub has_ordinal : (live : Live) (u : LinkUnit) → is_live live u ≡ true
    → ordinal_of live u ≡ Some (live_below live u (unit_index u.unit))
has_ordinal live u is = rw is refl

is_live_with : (live : Live) (u : LinkUnit) (n : ℕ) → ordinal_of live u ≡ Some n → is_live live u ≡ true
is_live_with live u n is = elim (cases_Bool (is_live live u)) [
  | inl y ↦ y
  | inr dead ↦ absurd (let none : None ≡ Some n = rw dead at is in cc)
]

-- where a kept one stands
pub record OwnAt {Y : Type 0} (firsts : List ℕ) (space : List Y) (object n : ℕ) (y : Y) : Type 0 where
  pub first : ℕ
  pub first_is : slice_get firsts object ≡ Some first
  pub stands : slice_get space (first + n) ≡ Some y

own_at : {Y : Type 0} (input : Input) (own : Own) (entry : ℕ → ℕ → Y) (parts : List (List Y)) (object k n : ℕ)
    → IsLiveOf input.link input.live
    → ordinal_of input.live (record { object = object; unit = own_unit own k }) ≡ Some n
    → OwnAt (firsts_from input own (total (lengths_of parts)) 0 input.link.objects)
    (joined parts ++ by_object (λ i o. map (entry i) (kept_own input own i o)) 0 input.link.objects)
    object n (entry object k)
own_at {Y} input own entry parts object k n live is =
    let u : LinkUnit = record { object = object; unit = own_unit own k } in
    let firsts : List ℕ = firsts_from input own (total (lengths_of parts)) 0 input.link.objects in
    let lt : object < length input.link.objects = live_within input u live (is_live_with input.live u n is) in
    let long : length firsts ≡ length input.link.objects =
    firsts_length input own (total (lengths_of parts)) 0 input.link.objects in
    let here = splits firsts object (omega (arith, lt, long)) in
    let at : slice_get (firsts_from input own (length (joined parts)) 0 input.link.objects) object ≡ Some here.x =
    ap (λ (m : ℕ). slice_get (firsts_from input own m 0 input.link.objects) object) (joined_length parts) ∙ here.here in
    record {
      first = here.x;
      first_is = here.here;
      stands = own_stands input own entry (joined parts) object k n here.x is at live;
    }

-- there is room for it
pub fits : {Y : Type 0} (firsts : List ℕ) (space : List Y) (object n : ℕ) (y : Y) → length space ≤ MAX_ENTRIES
    → OwnAt firsts space object n y → HasRoom firsts object n
fits firsts space object n y room at =
    let lt : at.first + n < length space = slice_get_within space (at.first + n) y at.stands in
    record { first = at.first; first_is = at.first_is; room = omega (arith, lt, room) }

pub function_at : (input : Input) (n : Numbering) → IsNumbering input n → IsLiveOf input.link input.live
    → (object k m : ℕ) → ordinal_of input.live (record { object = object; unit = DefinedFunction k }) ≡ Some m
    → OwnAt n.function_firsts.items (function_space input) object m (FunctionOf (function.Defined object k))
function_at input n is live object k m at =
    subst (λ (firsts : List ℕ). OwnAt firsts (function_space input) object m (FunctionOf (function.Defined object k)))
    (sym is.function_firsts)
    (own_at input Functions (λ i j. FunctionOf (function.Defined i j)) (function_parts input) object k m live at)

pub global_at : (input : Input) (n : Numbering) → IsNumbering input n → IsLiveOf input.link input.live
    → (object k m : ℕ) → ordinal_of input.live (record { object = object; unit = DefinedGlobal k }) ≡ Some m
    → OwnAt n.global_firsts.items (global_space input) object m (GlobalOf (global.Defined object k))
global_at input n is live object k m at =
    subst (λ (firsts : List ℕ). OwnAt firsts (global_space input) object m (GlobalOf (global.Defined object k)))
    (sym is.global_firsts)
    (own_at input Globals (λ i j. GlobalOf (global.Defined i j)) (global_parts input) object k m live at)

pub firsts_fit : (input : Input) (n : Numbering) → IsNumbering input n → IsLiveOf input.link input.live → (own : Own)
    → (object k : ℕ) → FitsOwn input (firsts_of n own) object (own_unit own k)
firsts_fit input n is live Functions object k m at =
    fits n.function_firsts.items (function_space input) object m (FunctionOf (function.Defined object k)) is.functions_fit
    (function_at input n is live object k m at)
firsts_fit input n is live Globals object k m at =
    fits n.global_firsts.items (global_space input) object m (GlobalOf (global.Defined object k)) is.globals_fit
    (global_at input n is live object k m at)

-- the index of one is that of its entry
index_is : {Y : Type 0} (input : Input) (firsts : List ℕ) (space : List Y) (object : ℕ) (unit : WasmGcUnit) (y : Y)
    → ((m : ℕ) → ordinal_of input.live (record { object = object; unit = unit }) ≡ Some m → OwnAt firsts space object m y)
    → IsIndexOf space (if keeps input object unit then Some y else None) (own_index input firsts object unit)
index_is input firsts space object unit y stands =
    let u : LinkUnit = record { object = object; unit = unit } in
    elim (cases_Bool (is_live input.live u)) [
      | inr dead ↦ rw dead refl
      | inl so ↦
          (let at = stands (live_below input.live u (unit_index unit)) (has_ordinal input.live u so) in
          rw (so, at.first_is) at.stands)
    ]

pub own_functions : (input : Input) (n : Numbering) → IsNumbering input n → IsLiveOf input.link input.live
    → (object : ℕ) (o : Object)
    → AreIndicesOf (function_space input) (map (own_function_entry input object) (range_with_len 0 (length o.functions)))
    (own_indices_of input Functions n.function_firsts.items object (length o.functions))
own_functions input n is live object o =
    zip_maps (IsIndexOf (function_space input)) (own_function_entry input object)
    (λ k. own_index input n.function_firsts.items object (DefinedFunction k))
    (λ k. index_is input n.function_firsts.items (function_space input) object (DefinedFunction k)
    (FunctionOf (function.Defined object k)) (λ m at. function_at input n is live object k m at))
    (range_with_len 0 (length o.functions))

pub own_globals : (input : Input) (n : Numbering) → IsNumbering input n → IsLiveOf input.link input.live
    → (object : ℕ) (o : Object)
    → AreIndicesOf (global_space input) (map (own_global_entry input object) (range_with_len 0 (length o.globals)))
    (own_indices_of input Globals n.global_firsts.items object (length o.globals))
own_globals input n is live object o =
    zip_maps (IsIndexOf (global_space input)) (own_global_entry input object)
    (λ k. own_index input n.global_firsts.items object (DefinedGlobal k))
    (λ k. index_is input n.global_firsts.items (global_space input) object (DefinedGlobal k)
    (GlobalOf (global.Defined object k)) (λ m at. global_at input n is live object k m at))
    (range_with_len 0 (length o.globals))

-- ---- what slots are resolved to

-- the resolution at a place is that of the slot there
resolved_there : (input : Input) (kind : WasmSymbolKind) (slots : List ImportSlot) (row : List ImportResolution)
    (k : ℕ) (t : ImportSlot) (d : ImportResolution) → row ≡ map (resolution_of input kind) slots
    → slice_get slots k ≡ Some t → get_or row k d ≡ resolution_of input kind t
resolved_there input kind slots row k t d is at =
    ap (λ (rs : List ImportResolution). get_or rs k d) is
    ∙ get_or_from_slice_get (map (resolution_of input kind) slots) k (resolution_of input kind t) d (mapped_at (resolution_of input kind) slots k t at)

-- a slot of that object, kind and number has an index
abbrev HasAt : Numbering → WasmSymbolKind → WasmSymbolKind → ℕ → ℕ → ImportResolution → Type 0
HasAt n kind of object slot r = keeps_slot n.input.now of object slot ≡ true → HasIndex n (place_at n.shared.now kind object slot) r

pub has_index : (n : Numbering) (kind : WasmSymbolKind) (object k : ℕ) (row : List ImportResolution) (d : ImportResolution)
    → k < length row
    → row ≡ map (resolution_of n.input.now kind) (import_slots n.input.now.link.objects object kind)
    → HaveSlotIndices n kind (import_slots n.input.now.link.objects object kind)
    → HasAt n kind kind object k (get_or row k d)
has_index n kind object k row d lt is have =
    let slots : List ImportSlot = import_slots n.input.now.link.objects object kind in
    let long : length row ≡ length slots = ap (λ (rs : List ImportResolution). length rs) is
    ∙ length-map slots (resolution_of n.input.now kind) in
    let s = splits slots k (omega (arith, lt, long)) in
    let t : ImportSlot = s.x in
    let at : IsAt object kind k t = placed n.input.now.link.objects object kind k t s.here in
    let there : HasAt n kind t.kind t.object t.number (resolution_of n.input.now kind t) = have k t s.here in
    subst (λ (r : ImportResolution). HasAt n kind kind object k r)
    (sym (resolved_there n.input.now kind slots row k t d is s.here))
    (subst (λ (m : ℕ). HasAt n kind kind object m (resolution_of n.input.now kind t)) at.number_is
    (subst (λ (i : ℕ). HasAt n kind kind i t.number (resolution_of n.input.now kind t)) at.object_is
    (subst (λ (of : WasmSymbolKind). HasAt n kind of t.object t.number (resolution_of n.input.now kind t)) at.kind_is there)))

-- the index of a slot of that object, kind and number
abbrev IsKeptAt : Numbering → ℕ → WasmSymbolKind → WasmSymbolKind → ℕ → ℕ → ImportResolution → Type 0
IsKeptAt n index kind of object slot r =
    keeps_slot n.input.now of object slot ≡ true → IsResolvedIndex n (place_at n.shared.now kind object slot) r index

abbrev IsDeadAt : Numbering → ℕ → WasmSymbolKind → ℕ → ℕ → Type 0
IsDeadAt n index of object slot = keeps_slot n.input.now of object slot ≡ false → index ≡ WASM_DEAD_INDEX

pub is_slot_index : (n : Numbering) (kind : WasmSymbolKind) (object k index : ℕ) (row : List ImportResolution)
    (d : ImportResolution) (t : ImportSlot)
    → row ≡ map (resolution_of n.input.now kind) (import_slots n.input.now.link.objects object kind)
    → IsKeptAt n index kind kind object k (get_or row k d) → IsDeadAt n index kind object k
    → slice_get (import_slots n.input.now.link.objects object kind) k ≡ Some t → IsSlotIndex n kind t index
is_slot_index n kind object k index row d t is kept dead here =
    let slots : List ImportSlot = import_slots n.input.now.link.objects object kind in
    let at : IsAt object kind k t = placed n.input.now.link.objects object kind k t here in
    let r : ImportResolution = resolution_of n.input.now kind t in
    record {
      kept =
          subst (λ (of : WasmSymbolKind). IsKeptAt n index kind of t.object t.number r) (sym at.kind_is)
          (subst (λ (i : ℕ). IsKeptAt n index kind kind i t.number r) (sym at.object_is)
          (subst (λ (m : ℕ). IsKeptAt n index kind kind object m r) (sym at.number_is)
          (subst (λ (x : ImportResolution). IsKeptAt n index kind kind object k x)
          (resolved_there n.input.now kind slots row k t d is here) kept)));
      dead =
          subst (λ (of : WasmSymbolKind). IsDeadAt n index of t.object t.number) (sym at.kind_is)
          (subst (λ (i : ℕ). IsDeadAt n index kind i t.number) (sym at.object_is)
          (subst (λ (m : ℕ). IsDeadAt n index kind object m) (sym at.number_is) dead));
    }

pub row_there : (input : Input) (rows : List ObjectImportResolutions) (object : ℕ) (o : Object)
    → rows ≡ resolutions input (by_all_rules input) → slice_get input.link.objects object ≡ Some o
    → slice_get rows object ≡ Some (record {
      function_resolutions = map (resolution_of input Func) (object_slots object Func o);
      global_resolutions = map (resolution_of input Global) (object_slots object Global o);
    })
row_there input rows object o is at =
    ap (λ (rs : List ObjectImportResolutions). slice_get rs object) is
    ∙ (row_at (by_all_rules input) 0 object input.link.objects object (omega arith)
    ∙ ap (option_map (row_of (by_all_rules input) object)) at)

pub slots_long : (n : Numbering) (kind : WasmSymbolKind) (object k : ℕ) (row : List ImportResolution) → k < length row
    → row ≡ map (resolution_of n.input.now kind) (import_slots n.input.now.link.objects object kind)
    → k < length (import_slots n.input.now.link.objects object kind)
slots_long n kind object k row lt is =
    let slots : List ImportSlot = import_slots n.input.now.link.objects object kind in
    let long : length row ≡ length slots = ap (λ (rs : List ImportResolution). length rs) is
    ∙ length-map slots (resolution_of n.input.now kind) in
    omega (arith, lt, long)

-- ---- room in the spaces

own_length : {Y : Type 0} (input : Input) (own : Own) (entry : ℕ → ℕ → Y) (object : ℕ) (objects : List Object)
    → length (by_object (λ i o. map (entry i) (kept_own input own i o)) object objects) ≡ kept_count input own object objects
own_length input own entry object [] = refl
own_length input own entry object (o ∷ objects) =
    length-append (map (entry object) (kept_own input own object o))
    (by_object (λ i p. map (entry i) (kept_own input own i p)) (object + 1) objects)
    ∙ (ap (λ (m : ℕ). m + length (by_object (λ i p. map (entry i) (kept_own input own i p)) (object + 1) objects))
    (length-map (kept_own input own object o) (entry object))
    ∙ ap (λ (m : ℕ). length (kept_own input own object o) + m) (own_length input own entry (object + 1) objects))

entries_length : {Y : Type 0} (input : Input) (own : Own) (entry : ℕ → ℕ → Y) (parts : List (List Y))
    → length (joined parts ++ by_object (λ i o. map (entry i) (kept_own input own i o)) 0 input.link.objects)
    ≡ total (lengths_of parts) + kept_count input own 0 input.link.objects
entries_length input own entry parts =
    length-append (joined parts) (by_object (λ i o. map (entry i) (kept_own input own i o)) 0 input.link.objects)
    ∙ (ap (λ (m : ℕ). m + length (by_object (λ i o. map (entry i) (kept_own input own i o)) 0 input.link.objects)) (joined_length parts)
    ∙ ap (λ (m : ℕ). total (lengths_of parts) + m) (own_length input own entry 0 input.link.objects))

pub space_long : (input : Input) (own : Own) → space_length input own ≡ own_start input own + kept_count input own 0 input.link.objects
space_long input Functions = entries_length input Functions (λ i k. FunctionOf (function.Defined i k)) (function_parts input)
space_long input Globals = entries_length input Globals (λ i k. GlobalOf (global.Defined i k)) (global_parts input)

too_many : (input : Input) (own : Own) → MAX_ENTRIES < space_length input own → AreTooMany input
too_many input Functions lt = inl lt
too_many input Globals lt = inr lt

pub own_over : (input : Input) (own : Own) (count : ℕ) (e : LinkError) → count ≤ space_length input own
    → IsOver count e → IsSpaceOver input e
own_over input own count e le over =
    over_as input count e (λ lt. too_many input own (omega (arith, lt, le))) over

-- ---- rows

-- the row of an object has few entries
pub row_few : (input : Input) (kind : WasmSymbolKind) (object : ℕ) (o : Object) (row : List ImportResolution) (count : ℕ)
    → row ≡ map (resolution_of input kind) (object_slots object kind o) → length (object_slots object kind o) ≡ count
    → count ≤ MAX_LEN → length row < 2 ^ 32
row_few input kind object o row count is long few =
    let same : length row ≡ length (object_slots object kind o) =
    ap (λ (rs : List ImportResolution). length rs) is ∙ length-map (object_slots object kind o) (resolution_of input kind) in
    omega (arith, same, long, few)

-- the object that is looked at is the one at its place
pub same_object : (objects files : List Object) (k : ℕ) (o p : Object) → files ≡ objects
    → p ≡ get_or files k p → slice_get objects k ≡ Some o → p ≡ o
same_object objects files k o p are is here =
    is ∙ ap (λ (os : List Object). get_or os k p) are ∙ get_or_from_slice_get objects k o p here
