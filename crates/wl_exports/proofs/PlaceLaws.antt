-- The indices of what objects have.
use Rattle.std.proofs.Common.{◌≡◌, ◌∙◌, ◌≤◌, ◌<◌, ℕ, zero, suc, ◌+◌, ◌-◌, ◌==◌, ◌||◌, Bool, true, false, nat_lt, nat_le, List, [], ◌∷◌, ◌++◌, length, map, refl, sym, ap, subst, arith, inl, inr, Option, Some, None, slice_get, if◌then◌else◌, eqb-true}
use Rattle.std.specs.List.{range_with_len}
use Rattle.std.specs.Option.{option_map}
use Rattle.std.proofs.lemmas.Bool.{cases_Bool, leb-false, ltb-false, or_parts}
use Rattle.std.proofs.lemmas.List.{length-map}
use Rattle.std.proofs.lemmas.Option.{same_Some, slice_get_within}
use Rattle.wl_index.specs.declared.index.TheConstants.{WASM_DEAD_INDEX, MAX_ENTRIES}
use Rattle.wl_module.specs.Exports.{Exported}
use Rattle.wl_module.specs.declared.imports.ExternalKind.TheVariants as external
use Rattle.wl_linking.specs.Object.{Object}
use Rattle.wl_linking.specs.Spaces.{count_imports}
use Rattle.wl_custom.specs.declared.symbols.WasmSymbolKind.TheVariants as symbol
use Rattle.wl_symbols.specs.declared.units.WasmGcUnit.TheVariants.{DefinedFunction, DefinedGlobal}
use Rattle.wl_index.specs.declared.index_map.WasmObjectIndexMap.{WasmObjectIndexMap}
use Rattle.wl_symbols.specs.ImportSlots.{object_slots}
use Rattle.wl_symbols.specs.Units.{defined_number}
use Rattle.wl_symbols.specs.SlotTargets.{own_number}
use Rattle.wl_bind.specs.FunctionSpace.{FunctionEntry, FunctionOf, function_space, function_slot_entry, own_function_entry, local_functions}
use Rattle.wl_bind.specs.GlobalSpace.{GlobalEntry, GlobalOf, global_space, global_slot_entry, own_global_entry, local_globals}
use Rattle.wl_symbols.specs.Input.{Input, keeps}
use Rattle.wl_bind.specs.Parts.{AreIndicesOf, AreRows, IsIndexOf, IsPlaceOf}
use Rattle.wl_bind.specs.References.{there}
use Rattle.wl_bind.specs.declared.binding.FunctionTarget.TheVariants as function
use Rattle.wl_bind.specs.declared.binding.GlobalTarget.TheVariants as global
use Rattle.wl_exports.specs.Exports.{OfFunction, OfGlobal, export_of}
use Rattle.wl_exports.specs.steps.Exports.{IsPlainIf, index_at, unless_dead}
use Rattle.wl_exports.specs.Sources.{HasIndices, HaveIndices}
use Rattle.wl_lists.proofs.Places.{range_at}
use Rattle.wl_exports.proofs.ListLaws.{behind_at}

-- ---- rows and places

rows_at : {X : Type 0} (IsRow : ℕ → Object → X → Type 0) (n i m : ℕ) (objects : List Object) (rows : List X) (o : Object)
    → AreRows IsRow n objects rows → n + i ≡ m → slice_get objects i ≡ Some o
    → (row : X) × (slice_get rows i ≡ Some row) × IsRow m o row
rows_at IsRow n i m [] rows o are same at = absurd cc
rows_at IsRow n i m (p ∷ objects) [] o are same at = absurd are
rows_at {X} IsRow n zero m (p ∷ objects) (row ∷ rows) o are same at =
    let is : p ≡ o = cc in
    let number : n ≡ m = omega (arith, same) in (
      row,
      refl,
      subst (λ (k : ℕ). IsRow k o row) number (subst (λ (q : Object). IsRow n q row) is are.0),
    )
rows_at IsRow n (suc i) m (p ∷ objects) (row ∷ rows) o are same at =
    rows_at IsRow (n + 1) i m objects rows o are.1 (omega (arith, same)) at

alive : (index : ℕ) → index < MAX_ENTRIES → unless_dead index ≡ Some index
alive index lt = elim (cases_Bool (index == WASM_DEAD_INDEX)) [
  | inl dead ↦
      let e : index ≡ WASM_DEAD_INDEX = eqb-true index WASM_DEAD_INDEX dead in
      absurd (omega (arith, e, lt))
  | inr live ↦ rw live refl
]

one_place : {X : Type 0} (space : List X) (entry : Option X) (index : ℕ) → IsIndexOf space entry index
    → length space ≤ MAX_ENTRIES → IsPlaceOf space entry (unless_dead index)
one_place space None index is room = ap unless_dead is
one_place space (Some x) index is room =
    let within = slice_get_within space index x is in
    let lt : index < MAX_ENTRIES = omega (arith, within, room) in
    subst (λ (p : Option ℕ). IsPlaceOf space (Some x) p) (sym (alive index lt)) is

place_there : {X : Type 0} (space : List X) (entries : List (Option X)) (indices : List ℕ) (k : ℕ)
    → AreIndicesOf space entries indices → length space ≤ MAX_ENTRIES
    → IsPlaceOf space (there entries k) (index_at indices k)
place_there space [] [] k are room = refl
place_there space [] (index ∷ indices) k are room = absurd are
place_there space (entry ∷ entries) [] k are room = absurd are
place_there space (entry ∷ entries) (index ∷ indices) zero are room = one_place space entry index are.0 room
place_there space (entry ∷ entries) (index ∷ indices) (suc k) are room =
    place_there space entries indices k are.1 room

-- ---- exports by places

abbrev pub function_at : List ℕ → Option ℕ → Option Exported
function_at name place = option_map (λ i. record { name = name; kind = external.Func; index = i }) place

abbrev pub global_at : List ℕ → Option ℕ → Option Exported
global_at name place = option_map (λ i. record { name = name; kind = external.Global; index = i }) place

function_by : (input : Input) (name : List ℕ) (entry : Option FunctionEntry) (place : Option ℕ)
    → IsPlaceOf (function_space input) entry place
    → IsPlainIf input (option_map (export_of name) (option_map OfFunction entry)) (function_at name place)
function_by input name None None is = tt
function_by input name None (Some i) is = absurd cc
function_by input name (Some f) None is = absurd is
function_by input name (Some f) (Some i) is = record { name = refl; leads = (refl, is) }

global_by : (input : Input) (name : List ℕ) (entry : Option GlobalEntry) (place : Option ℕ)
    → IsPlaceOf (global_space input) entry place
    → IsPlainIf input (option_map (export_of name) (option_map OfGlobal entry)) (global_at name place)
global_by input name None None is = tt
global_by input name None (Some i) is = absurd cc
global_by input name (Some f) None is = absurd is
global_by input name (Some f) (Some i) is = record { name = refl; leads = (refl, is) }

-- the map of an object, and what it says of a function and of a global
pub record HasMap (input : Input) (maps : List WasmObjectIndexMap) (object : ℕ) (o : Object) : Type 0 where
  pub map_is : WasmObjectIndexMap
  pub at : slice_get maps object ≡ Some map_is
  pub functions : (name : List ℕ) (index : ℕ)
      → IsPlainIf input (option_map (export_of name) (option_map OfFunction (there (local_functions input object o) index)))
      (function_at name (index_at map_is.function_indices index))
  pub globals : (name : List ℕ) (index : ℕ)
      → IsPlainIf input (option_map (export_of name) (option_map OfGlobal (there (local_globals input object o) index)))
      (global_at name (index_at map_is.global_indices index))

pub has_map : (input : Input) (maps : List WasmObjectIndexMap) (object : ℕ) (o : Object)
    → HaveIndices input maps → length (function_space input) ≤ MAX_ENTRIES
    → length (global_space input) ≤ MAX_ENTRIES → slice_get input.link.objects object ≡ Some o
    → HasMap input maps object o
has_map input maps object o are functions globals here =
    let row = rows_at (HasIndices input) 0 object object input.link.objects maps o are (omega arith) here in
    record {
      map_is = row.0;
      at = row.1;
      functions = λ name index. function_by input name (there (local_functions input object o) index)
          (index_at row.0.function_indices index)
          (place_there (function_space input) (local_functions input object o) row.0.function_indices index
          row.2.functions functions);
      globals = λ name index. global_by input name (there (local_globals input object o) index)
          (index_at row.0.global_indices index)
          (place_there (global_space input) (local_globals input object o) row.0.global_indices index
          row.2.globals globals);
    }

pub the_map : (input : Input) (maps : List WasmObjectIndexMap) (object : ℕ) (o : Object) (m : WasmObjectIndexMap)
    → (h : HasMap input maps object o) → slice_get maps object ≡ Some m → h.map_is ≡ m
the_map input maps object o m h some = same_Some h.map_is m (sym h.at ∙ some)

-- ---- what an object defines

unless_past : (past : Bool) (x n : ℕ) → (if past then None else Some x) ≡ Some n
    → (past ≡ false) × (x ≡ n)
unless_past true x n e = absurd cc
unless_past false x n e = (refl, same_Some x n e)

-- the index of what is defined is its number past what is imported
record StandsBehind (imports count index n : ℕ) : Type 0 where
  pub behind : index ≡ imports + n
  pub within : n < count

stands_behind : (imports count index n : ℕ) → defined_number imports count index ≡ Some n
    → StandsBehind imports count index n
stands_behind imports count index n e =
    let given = unless_past (nat_lt index imports || nat_le count (index - imports)) (index - imports) n e in
    let tests = or_parts (nat_lt index imports) (nat_le count (index - imports)) given.0 in
    let ge : imports ≤ index = ltb-false index imports tests.0 in
    let lt : index - imports < count = leb-false count (index - imports) tests.1 in
    let same = given.1 in
    record { behind = omega (arith, ge, same); within = omega (arith, lt, same) }

abbrev pub AreCounted : Type 0
AreCounted = (object : ℕ) (o : Object)
    → length (object_slots object symbol.Func o) ≡ count_imports external.Func o.imports

abbrev pub AreGlobalsCounted : Type 0
AreGlobalsCounted = (object : ℕ) (o : Object)
    → length (object_slots object symbol.Global o) ≡ count_imports external.Global o.imports

pub function_there : AreCounted → (input : Input) (object : ℕ) (o : Object) (index n : ℕ)
    → own_number symbol.Func o index ≡ Some n → keeps input object (DefinedFunction n) ≡ true
    → there (local_functions input object o) index ≡ Some (FunctionOf (function.Defined object n))
function_there counted input object o index n number kept =
    let slots = map (function_slot_entry input) (object_slots object symbol.Func o) in
    let own = map (own_function_entry input object) (range_with_len 0 (length o.functions)) in
    let s = stands_behind (count_imports external.Func o.imports) (length o.functions) index n number in
    let len : length slots ≡ count_imports external.Func o.imports =
    length-map (object_slots object symbol.Func o) (function_slot_entry input) ∙ counted object o in
    let place : index ≡ length slots + n = omega (arith, s.behind, len) in
    let entry : own_function_entry input object (0 + n) ≡ Some (FunctionOf (function.Defined object n)) =
    let zero_n : 0 + n ≡ n = omega arith in
    ap (λ k. own_function_entry input object k) zero_n ∙ rw kept refl in
    let at : slice_get (slots ++ own) index ≡ Some (Some (FunctionOf (function.Defined object n))) =
    ap (λ k. slice_get (slots ++ own) k) place
    ∙ (behind_at slots own n
    ∙ (range_at (own_function_entry input object) 0 (length o.functions) n s.within
    ∙ ap (λ (x : Option FunctionEntry). Some x) entry)) in
    rw at refl

pub global_there : AreGlobalsCounted → (input : Input) (object : ℕ) (o : Object) (index n : ℕ)
    → own_number symbol.Global o index ≡ Some n → keeps input object (DefinedGlobal n) ≡ true
    → there (local_globals input object o) index ≡ Some (GlobalOf (global.Defined object n))
global_there counted input object o index n number kept =
    let slots = map (global_slot_entry input) (object_slots object symbol.Global o) in
    let own = map (own_global_entry input object) (range_with_len 0 (length o.globals)) in
    let s = stands_behind (count_imports external.Global o.imports) (length o.globals) index n number in
    let len : length slots ≡ count_imports external.Global o.imports =
    length-map (object_slots object symbol.Global o) (global_slot_entry input) ∙ counted object o in
    let place : index ≡ length slots + n = omega (arith, s.behind, len) in
    let entry : own_global_entry input object (0 + n) ≡ Some (GlobalOf (global.Defined object n)) =
    let zero_n : 0 + n ≡ n = omega arith in
    ap (λ k. own_global_entry input object k) zero_n ∙ rw kept refl in
    let at : slice_get (slots ++ own) index ≡ Some (Some (GlobalOf (global.Defined object n))) =
    ap (λ k. slice_get (slots ++ own) k) place
    ∙ (behind_at slots own n
    ∙ (range_at (own_global_entry input object) 0 (length o.globals) n s.within
    ∙ ap (λ (x : Option GlobalEntry). Some x) entry)) in
    rw at refl
