-- Imports of the output, by the slots that they are.
use Rattle.std.proofs.Common.{◌≡◌, ◌∙◌, ℕ, zero, suc, ◌+◌, ◌<◌, ◌≤◌, Bool, List, [], ◌∷◌, ◌++◌, length, filter, if◌then◌else◌, refl, sym, ap, subst, arith, Option, Some, slice_get, get_or, filter_map, map, not, take, Contains}
use Rattle.std.specs.List.{AllZip}
use Rattle.std.specs.Option.{option_and_then, is_none, unwrap_or}
use Rattle.std.proofs.lemmas.List.{append-nil, append_assoc, take_all}
use Rattle.std.proofs.lemmas.Option.{same_Some, get_or_from_slice_get, slice_get_within}
use Rattle.wl_module.specs.Imports.{Imported}
use Rattle.wl_module.specs.Types.{FunctionType}
use Rattle.wl_index.specs.declared.index.TheConstants.{WASM_DEAD_INDEX}
use Rattle.wl_index.specs.declared.index_map.WasmObjectIndexMap.{WasmObjectIndexMap}
use Rattle.wl_module.specs.declared.globals.GlobalType.{GlobalType}
use Rattle.wl_module.specs.declared.imports.ImportEntity.{ImportEntity}
use Rattle.wl_module.specs.declared.imports.ImportEntity.TheVariants as imported
use Rattle.wl_linking.specs.Object.{Object}
use Rattle.wl_custom.specs.Symbols.{Symbol}
use Rattle.wl_custom.specs.declared.symbols.WasmSymbolKind.TheVariants.{Func, Global as GlobalKind}
use Rattle.wl_symbols.specs.ImportSlots.{ImportSlot, is_slot_of, slot_at, numbered_slots, slot_imports}
use Rattle.wl_symbols.specs.Left.{HostImport, is_stub, same_import, first_imports, first_slot}
use Rattle.wl_bind.specs.BindingSteps.{slot_numbers, number_at}
use Rattle.wl_bind.specs.EntryTypes.{HasTypeIndex}
use Rattle.wl_bind.specs.FunctionBinding.{left_functions, host_functions}
use Rattle.wl_bind.specs.FunctionSpace.{FunctionOf}
use Rattle.wl_bind.specs.GlobalBinding.{left_globals, by_got, host_globals}
use Rattle.wl_symbols.specs.Input.{Input}
use Rattle.wl_bind.specs.OutputTypes.{output_types, AreTypeIndices}
use Rattle.wl_bind.specs.Parts.{AreRows}
use Rattle.wl_bind.specs.References.{IsSettled}
use Rattle.wl_bind.specs.Shared.{function_imports, global_imports}
use Rattle.wl_bind.specs.declared.binding.FunctionTarget.TheVariants.{Host}
use Rattle.wl_plan.specs.steps.Imports.{AddsImports, HasTypeIndexIn, HasRowType, global_types_in, type_in_row, index_of_type}
use Rattle.wl_plan.specs.Imports.{IsFunctionImport, IsGlobalImport, global_type_in, global_type_of_slot, memory_imports, AreImports}
use Rattle.wl_places.specs.IndexedMaps.{IsWholeMap, HaveTypeIndices}
use Rattle.wl_plan.specs.PlannedImports.{PlannedImport}
use Rattle.wl_output.specs.declared.entities.OutputImportEntity.TheVariants.{Function, Global}
use Rattle.wl_places.specs.declared.placing.Placing.{Placing}
use Rattle.wl_lists.proofs.Beside.{zip_joined}
use Rattle.wl_lists.proofs.Firsts.{in_firsts}
use Rattle.wl_lists.proofs.In.{IsIn, at_is_in, in_at, in_filter}
use Rattle.wl_lists.proofs.Places.{mapped_at, came_at}
use Rattle.wl_lists.proofs.Rows.{row_of_object}
use Rattle.wl_plan.proofs.FunctionLaws.{IsLocated, left_located, slot_here, slot_object, take_next}

-- ---- imports that are added

pub adds_nothing : (R : HostImport → PlannedImport → Type 0) (old : List PlannedImport) → AddsImports R [] old old
adds_nothing R old = record { more = []; are = tt; grown = sym (append-nil old) }

pub import_more : (R : HostImport → PlannedImport → Type 0) (hosts : List HostImport) (k : ℕ) (h : HostImport)
    (i : PlannedImport) (first old new : List PlannedImport) → slice_get hosts k ≡ Some h → R h i
    → new ≡ old ++ i ∷ [] → AddsImports R (take k hosts) first old → AddsImports R (take (k + 1) hosts) first new
import_more R hosts k h i first old new at is grown so_far =
    let next : k + 1 ≡ suc k = omega arith in
    let P : List HostImport → Type 0 = λ hs. AllZip R hs (so_far.more ++ i ∷ []) in
    rw next (record {
      more = so_far.more ++ i ∷ [];
      are = subst P (sym (take_next hosts k h at))
          (zip_joined R (take k hosts) (h ∷ []) so_far.more (i ∷ []) so_far.are (is, tt));
      grown = grown ∙ (ap (λ (is : List PlannedImport). is ++ i ∷ []) so_far.grown
          ∙ append_assoc first so_far.more (i ∷ []));
    })

pub imports_done : (R : HostImport → PlannedImport → Type 0) (hosts : List HostImport) (k : ℕ)
    (first new : List PlannedImport) → length hosts ≤ k → AddsImports R (take k hosts) first new
    → AddsImports R hosts first new
imports_done R hosts k first new le so_far =
    subst (λ (hs : List HostImport). AddsImports R hs first new) (take_all k hosts le) so_far

-- ---- functions

abbrev pub HaveHostIndices : Input → Type 0
HaveHostIndices input = (h : HostImport) (o : Object) (indices : List ℕ) → IsSettled input → Contains (function_imports input) h
    → slice_get input.link.objects h.object ≡ Some o → AreTypeIndices input h.object o indices
    → (number : ℕ) × (number_at (slot_numbers input.link.objects) h.object h.slot ≡ Some number) × HasTypeIndex input (FunctionOf (Host h.object h.slot)) indices number

-- the object of a host import of a function
host_object : (input : Input) (k : ℕ) (h : HostImport) → slice_get (function_imports input) k ≡ Some h → (o : Object) × (slice_get input.link.objects h.object ≡ Some o)
host_object input k h at =
    let hosts : List ImportSlot = first_imports (host_functions input) in
    let c = came_at first_slot hosts k h at in
    let t : ImportSlot = c.0 in
    let is : IsLocated Func input.link.objects 0 t =
    left_located input Func t
    (in_filter (λ (s : ImportSlot). not (is_stub input.link.objects (left_functions input) s)) (left_functions input) t
    (in_firsts same_import (host_functions input) t (in_at hosts k t c.1))) in
    let P : HostImport → Type 0 = λ g. (o : Object) × (slice_get input.link.objects g.object ≡ Some o) in
    subst P c.2 (is.object, slot_object Func input.link.objects t is)

-- it has a type, and the map of its object leads to it
pub host_typed : (input : Input) (k : ℕ) (h : HostImport) (slots : List (List ℕ)) (maps : List WasmObjectIndexMap) → HaveHostIndices input → IsSettled input
    → slots ≡ slot_numbers input.link.objects → HaveTypeIndices input maps → slice_get (function_imports input) k ≡ Some h → HasTypeIndexIn input slots maps h
host_typed input k h slots maps have settled same are at =
    let o = host_object input k h at in
    let row = row_of_object (λ object o (m : WasmObjectIndexMap). AreTypeIndices input object o m.type_indices) 0 input.link.objects maps h.object h.object o.0 are o.1 (omega arith) in
    let led = have h o.0 row.row.type_indices settled (at_is_in (function_imports input) k h at) o.1 row.is in
    let number : number_at slots h.object h.slot ≡ Some led.0 = ap (λ (rows : List (List ℕ)). number_at rows h.object h.slot) same ∙ led.1 in
    record {
      index = led.2.index;
      there = rw (number, row.here) led.2.at;
      typed = (led.2.ty, led.2.has, led.2.typed);
    }

-- an import under these names, with the number that was found
pub imported_so : (input : Input) (slots : List (List ℕ)) (maps : List WasmObjectIndexMap) (h : HostImport) (i : PlannedImport) (index : Option ℕ) → HasTypeIndexIn input slots maps h
    → (index ≡ index_of_type slots maps h) × (i.origin ≡ h.module_) × (i.name ≡ h.name) × (i.entity ≡ Function (unwrap_or index WASM_DEAD_INDEX)) → IsFunctionImport input (output_types input) h i
imported_so input slots maps h i index is (same, origin, name, entity) =
    let found : index ≡ Some is.index = same ∙ is.there in
    record {
      origin = origin;
      name = name;
      number = is.index;
      entity = entity ∙ ap (λ (x : Option ℕ). Function (unwrap_or x WASM_DEAD_INDEX)) found;
      typed = is.typed;
    }

-- maps that are whole have the indices of types
pub whole_types : (input : Input) (g : Placing) (n : ℕ) (objects : List Object) (maps : List WasmObjectIndexMap) → AreRows (IsWholeMap input g) n objects maps
    → AreRows (λ object o (m : WasmObjectIndexMap). AreTypeIndices input object o m.type_indices) n objects maps
whole_types input g n [] [] are = tt
whole_types input g n [] (m ∷ maps) are = absurd are
whole_types input g n (o ∷ objects) [] are = absurd are
whole_types input g n (o ∷ objects) (m ∷ maps) are = (are.0.types, whole_types input g (n + 1) objects maps are.1)

-- ---- globals

pub record GlobalAt (t : ImportSlot) (types : List GlobalType) (k : ℕ) : Type 0 where
  pub ty : GlobalType
  pub is : global_type_in t.item.entity ≡ Some ty
  pub at : slice_get types k ≡ Some ty

abbrev types_of : List Imported → List GlobalType
types_of imports = filter_map (λ (i : Imported). global_type_in i.entity) imports

types_by : (object : ℕ) (symbols : List Symbol) (n : ℕ) (i : Imported) (imports : List Imported) (e : ImportEntity)
    → i.entity ≡ e → (k : ℕ) (t : ImportSlot)
    → ((m j : ℕ) (u : ImportSlot)
    → slice_get (numbered_slots object GlobalKind symbols m (slot_imports GlobalKind imports)) j ≡ Some u
    → GlobalAt u (types_of imports) j)
    → slice_get (numbered_slots object GlobalKind symbols n (slot_imports GlobalKind (i ∷ imports))) k ≡ Some t
    → GlobalAt t (types_of (i ∷ imports)) k
types_by object symbols n i imports (imported.Global ty) is zero t rest here =
    let kept : filter (λ (m : Imported). is_slot_of GlobalKind m.entity) (i ∷ imports)
    ≡ i ∷ slot_imports GlobalKind imports =
    ap (λ (b : Bool). if b then i ∷ slot_imports GlobalKind imports else slot_imports GlobalKind imports)
    (ap (λ (e : ImportEntity). is_slot_of GlobalKind e) is) in
    let h : Some (slot_at object GlobalKind symbols n i) ≡ Some t =
    ap (λ (ms : List Imported). slice_get (numbered_slots object GlobalKind symbols n ms) 0) (sym kept) ∙ here in
    let same : slot_at object GlobalKind symbols n i ≡ t = same_Some (slot_at object GlobalKind symbols n i) t h in
    record {
      ty = ty;
      is = ap (λ (s : ImportSlot). global_type_in s.item.entity) (sym same) ∙ ap global_type_in is;
      at = rw is refl;
    }
types_by object symbols n i imports (imported.Global ty) is (suc k) t rest here =
    let r = rest (n + 1) k t (rw is at here) in
    record { ty = r.ty; is = r.is; at = rw is r.at }
types_by object symbols n i imports (imported.Func m) is k t rest here =
    let r = rest n k t (rw is at here) in
    record { ty = r.ty; is = r.is; at = rw is r.at }
types_by object symbols n i imports (imported.Table m) is k t rest here =
    let r = rest n k t (rw is at here) in
    record { ty = r.ty; is = r.is; at = rw is r.at }
types_by object symbols n i imports (imported.Memory m) is k t rest here =
    let r = rest n k t (rw is at here) in
    record { ty = r.ty; is = r.is; at = rw is r.at }

types_at : (object : ℕ) (symbols : List Symbol) (n : ℕ) (imports : List Imported) (k : ℕ) (t : ImportSlot)
    → slice_get (numbered_slots object GlobalKind symbols n (slot_imports GlobalKind imports)) k ≡ Some t
    → GlobalAt t (types_of imports) k
types_at object symbols n [] k t here = absurd cc
types_at object symbols n (i ∷ imports) k t here =
    types_by object symbols n i imports i.entity refl k t (λ m j u h. types_at object symbols m imports j u h) here

-- the type of a host import of a global, in the row of its object
pub record GlobalIs (input : Input) (h : HostImport) : Type 0 where
  pub object : Object
  pub at : slice_get input.link.objects h.object ≡ Some object
  pub ty : GlobalType
  pub there : slice_get (global_types_in object) h.slot ≡ Some ty
  pub typed : global_type_of_slot input h.object h.slot ≡ Some ty

global_located : (input : Input) (t : ImportSlot) → IsIn (first_imports (host_globals input)) t
    → IsLocated GlobalKind input.link.objects 0 t
global_located input t h =
    left_located input GlobalKind t
    (in_filter (λ (s : ImportSlot). is_none (by_got input s)) (left_globals input) t
    (in_firsts same_import (host_globals input) t h))

pub global_is : (input : Input) (k : ℕ) (h : HostImport) → slice_get (global_imports input) k ≡ Some h
    → GlobalIs input h
global_is input k h at =
    let hosts : List ImportSlot = first_imports (host_globals input) in
    let c = came_at first_slot hosts k h at in
    let t : ImportSlot = c.0 in
    let is = global_located input t (in_at hosts k t c.1) in
    let g = types_at t.object is.object.symbols 0 is.object.imports t.number t is.here in
    let P : HostImport → Type 0 = λ g. GlobalIs input g in
    subst P c.2 (record {
      object = is.object;
      at = slot_object GlobalKind input.link.objects t is;
      ty = g.ty;
      there = g.at;
      typed = ap (option_and_then (λ (s : ImportSlot). global_type_in s.item.entity))
          (slot_here GlobalKind input.link.objects t is) ∙ g.is;
    })

-- it stands in the rows of all objects
pub has_row : (input : Input) (h : HostImport) (row number : ℕ) (rows : List (List GlobalType))
    → rows ≡ map global_types_in input.link.objects → row ≡ h.object → number ≡ h.slot → GlobalIs input h
    → HasRowType rows row number
has_row input h row number rows rows-are row-is number-is is = record {
  types = global_types_in is.object;
  here = ap (λ (rs : List (List GlobalType)). slice_get rs row) rows-are
      ∙ (ap (slice_get (map global_types_in input.link.objects)) row-is
      ∙ mapped_at global_types_in input.link.objects h.object is.object is.at);
  ty = is.ty;
  there = ap (slice_get (global_types_in is.object)) number-is ∙ is.there;
}

-- its import
pub global_imported : (input : Input) (h : HostImport) (row number : ℕ) (rows : List (List GlobalType))
    (ty : GlobalType) (i : PlannedImport) → rows ≡ map global_types_in input.link.objects → row ≡ h.object
    → number ≡ h.slot → GlobalIs input h → type_in_row rows row number ≡ Some ty → i.origin ≡ h.module_
    → i.name ≡ h.name → i.entity ≡ Global ty → IsGlobalImport input h i
global_imported input h row number rows ty i rows-are row-is number-is is told origin name entity =
    let here : slice_get rows row ≡ Some (global_types_in is.object) =
    ap (λ (rs : List (List GlobalType)). slice_get rs row) rows-are
    ∙ (ap (slice_get (map global_types_in input.link.objects)) row-is
    ∙ mapped_at global_types_in input.link.objects h.object is.object is.at) in
    let there : type_in_row rows row number ≡ Some is.ty =
    ap (λ (ts : Option (List GlobalType)). option_and_then (λ (us : List GlobalType). slice_get us number) ts) here
    ∙ (ap (slice_get (global_types_in is.object)) number-is ∙ is.there) in
    let same : is.ty ≡ ty = same_Some is.ty ty (sym there ∙ told) in
    record {
      origin = origin;
      name = name;
      ty = ty;
      entity = entity;
      typed = is.typed ∙ ap (λ (t : GlobalType). Some t) same;
    }

-- ---- a type in a row

pub row_within : (rows : List (List GlobalType)) (row number : ℕ) → HasRowType rows row number → row < length rows
row_within rows row number is = slice_get_within rows row is.types is.here

pub row_is : (rows : List (List GlobalType)) (row number : ℕ) (types list : List GlobalType)
    (is : HasRowType rows row number) → types ≡ get_or rows row types → list ≡ types → list ≡ is.types
row_is rows row number types list is at same = same ∙ (at ∙ get_or_from_slice_get rows row is.types types is.here)

pub number_within : (rows : List (List GlobalType)) (row number : ℕ) (list : List GlobalType)
    (is : HasRowType rows row number) → list ≡ is.types → number < length list
number_within rows row number list is same =
    subst (λ (ts : List GlobalType). number < length ts) (sym same)
    (slice_get_within is.types number is.ty is.there)

pub type_read : (rows : List (List GlobalType)) (row number : ℕ) (list : List GlobalType) (d : GlobalType)
    (is : HasRowType rows row number) → list ≡ is.types → type_in_row rows row number ≡ Some (get_or list number d)
type_read rows row number list d is same =
    ap (λ (ts : Option (List GlobalType)). option_and_then (λ (us : List GlobalType). slice_get us number) ts) is.here
    ∙ (is.there ∙ ap (λ (t : GlobalType). Some t)
    (sym (ap (λ (ts : List GlobalType). get_or ts number d) same
    ∙ get_or_from_slice_get is.types number is.ty d is.there)))

-- ---- all of them

pub are_imports : (input : Input) (types : List FunctionType) (g : Placing) (none one two all : List PlannedImport)
    → none ≡ [] → AddsImports (IsFunctionImport input types) (function_imports input) none one
    → AddsImports (IsGlobalImport input) (global_imports input) one two → all ≡ two ++ memory_imports input g
    → AreImports input types g all
are_imports input types g none one two all start f h end = record {
  functions = f.more;
  globals = h.more;
  are_functions = f.are;
  are_globals = h.are;
  all = end ∙ (ap (λ (is : List PlannedImport). is ++ memory_imports input g)
      (h.grown ∙ ap (λ (is : List PlannedImport). is ++ h.more)
      (f.grown ∙ ap (λ (is : List PlannedImport). is ++ f.more) start)));
}
