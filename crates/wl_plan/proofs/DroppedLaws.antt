-- The maps of a plan mark exactly the functions and globals that aren't kept.
use Rattle.std.proofs.Common.{◌≡◌, ◌≢◌, ◌≤◌, ◌<◌, ◌+◌, ◌∙◌, ℕ, Bool, true, false, not, cond, List, [], ◌∷◌, length, map, Option, Some, None, if◌then◌else◌, refl, sym, ap, arith}
use Rattle.std.specs.List.{count_by, range_with_len, sum_by}
use Rattle.std.specs.Option.{is_none}
use Rattle.std.proofs.lemmas.Bool.{ne_eqb}
use Rattle.std.proofs.lemmas.List.Sums.{sum_by-append, sum_by-cons}
use Rattle.std.proofs.lemmas.Option.{slice_get_within}
use Rattle.wl_linking.specs.Object.{Object}
use Rattle.wl_custom.specs.declared.symbols.WasmSymbolKind.TheVariants.{Func, Global}
use Rattle.wl_index.specs.declared.index.TheConstants.{MAX_ENTRIES, WASM_DEAD_INDEX}
use Rattle.wl_index.specs.declared.index_map.WasmObjectIndexMap.{WasmObjectIndexMap}
use Rattle.wl_symbols.specs.Input.{Input, keeps}
use Rattle.wl_symbols.specs.ImportSlots.{ImportSlot, object_slots}
use Rattle.wl_symbols.specs.KeptSlots.{is_kept_slot}
use Rattle.wl_symbols.specs.Link.{Link}
use Rattle.wl_symbols.specs.declared.units.WasmGcUnit.TheVariants.{DefinedFunction, DefinedGlobal}
use Rattle.wl_bind.specs.FunctionBinding.{binds_function}
use Rattle.wl_bind.specs.GlobalBinding.{binds_global}
use Rattle.wl_bind.specs.declared.binding.FunctionTarget.TheVariants as function
use Rattle.wl_bind.specs.declared.binding.GlobalTarget.TheVariants as global
use Rattle.wl_bind.specs.FunctionSpace.{FunctionEntry, FunctionOf, function_space, local_functions, function_slot_entry, own_function_entry}
use Rattle.wl_bind.specs.GlobalSpace.{GlobalEntry, GlobalOf, global_space, local_globals, global_slot_entry, own_global_entry}
use Rattle.wl_bind.specs.Parts.{IsIndexOf, AreIndicesOf, AreRows}
use Rattle.wl_plan.specs.Dropped.{is_dropped, dropped_in, unkept_slots, unkept_functions, unkept_globals, unkept_in, unkept_from}
use Rattle.wl_plan.specs.Faults.{input_of}
use Rattle.wl_places.specs.IndexedMaps.{IsWholeMap}
use Rattle.wl_plan.specs.LinkPlan.{IsPlanOf}
use Rattle.wl_plan.specs.steps.Outline.{AreFew}
use Rattle.wl_plan.specs.declared.layout.LinkPlan.{LinkPlan}
use Rattle.wl_places.specs.declared.placing.Placing.{Placing}
use Rattle.wl_plan.proofs.ListingLaws.{few_of_plan}

-- ---- one list of entries

count_cons : {X : Type 0} (p : X → Bool) (x : X) (xs : List X)
    → count_by p (x ∷ xs) ≡ cond (p x) 1 0 + count_by p xs
count_cons p x xs = sum_by-cons (λ y. cond (p y) 1 0) x xs

-- an index is marked just where there is no entry
marked : {X : Type 0} (space : List X) → length space ≤ MAX_ENTRIES → (entry : Option X) (index : ℕ)
    → IsIndexOf space entry index → is_dropped index ≡ is_none entry
marked space few None index is = rw is refl
marked space few (Some x) index is =
    let within : index < length space = slice_get_within space index x is in
    let other : index ≢ WASM_DEAD_INDEX = λ same. omega (arith, within, few, same) in
    ne_eqb index WASM_DEAD_INDEX other

all_marked : {X : Type 0} (space : List X) → length space ≤ MAX_ENTRIES → (entries : List (Option X))
    (indices : List ℕ) → AreIndicesOf space entries indices
    → count_by is_dropped indices ≡ count_by is_none entries
all_marked space few [] [] are = refl
all_marked space few [] (i ∷ indices) are = absurd are
all_marked space few (e ∷ entries) [] are = absurd are
all_marked space few (e ∷ entries) (i ∷ indices) are =
    count_cons is_dropped i indices
    ∙ ap (λ b. cond b 1 0 + count_by is_dropped indices) (marked space few e i are.0)
    ∙ ap (λ n. cond (is_none e) 1 0 + n) (all_marked space few entries indices are.1)
    ∙ sym (count_cons is_none e entries)

none_where : {X : Type 0} (kept : Bool) (x : X) → is_none (if kept then Some x else None) ≡ not kept
none_where true x = refl
none_where false x = refl

-- what isn't kept has no entry
mapped : {X Y : Type 0} (kept : X → Bool) (entry : X → Y) (xs : List X)
    → count_by is_none (map (λ x. if kept x then Some (entry x) else None) xs)
    ≡ count_by (λ x. not (kept x)) xs
mapped kept entry [] = refl
mapped kept entry (x ∷ xs) =
    count_cons is_none (if kept x then Some (entry x) else None)
    (map (λ y. if kept y then Some (entry y) else None) xs)
    ∙ ap (λ b. cond b 1 0 + count_by is_none (map (λ y. if kept y then Some (entry y) else None) xs))
    (none_where (kept x) (entry x))
    ∙ ap (λ n. cond (not (kept x)) 1 0 + n) (mapped kept entry xs)
    ∙ sym (count_cons (λ y. not (kept y)) x xs)

-- ---- an object

functions_marked : (input : Input) (object : ℕ) (o : Object)
    → count_by is_none (local_functions input object o)
    ≡ unkept_slots input (object_slots object Func o)
    + unkept_functions input object (length o.functions)
functions_marked input object o =
    let slots = object_slots object Func o in
    let own = range_with_len 0 (length o.functions) in
    sum_by-append (λ (e : Option FunctionEntry). cond (is_none e) 1 0) (map (function_slot_entry input) slots)
    (map (own_function_entry input object) own)
    ∙ (rw (
      mapped (is_kept_slot input) (λ (t : ImportSlot). FunctionOf (binds_function input t)) slots,
      mapped (λ k. keeps input object (DefinedFunction k)) (λ k. FunctionOf (function.Defined object k)) own,
    ) refl)

globals_marked : (input : Input) (object : ℕ) (o : Object)
    → count_by is_none (local_globals input object o)
    ≡ unkept_slots input (object_slots object Global o)
    + unkept_globals input object (length o.globals)
globals_marked input object o =
    let slots = object_slots object Global o in
    let own = range_with_len 0 (length o.globals) in
    sum_by-append (λ (e : Option GlobalEntry). cond (is_none e) 1 0) (map (global_slot_entry input) slots)
    (map (own_global_entry input object) own)
    ∙ (rw (
      mapped (is_kept_slot input) (λ (t : ImportSlot). GlobalOf (binds_global input t)) slots,
      mapped (λ k. keeps input object (DefinedGlobal k)) (λ k. GlobalOf (global.Defined object k)) own,
    ) refl)

object_marked : (input : Input) (g : Placing) → AreFew input → (object : ℕ) (o : Object)
    (m : WasmObjectIndexMap) → IsWholeMap input g object o m → dropped_in m ≡ unkept_in input object o
object_marked input g few object o m is =
    let functions = all_marked (function_space input) few.functions (local_functions input object o)
    m.function_indices is.functions ∙ functions_marked input object o in
    let globals = all_marked (global_space input) few.globals (local_globals input object o)
    m.global_indices is.globals ∙ globals_marked input object o in
    rw (functions, globals) refl

-- ---- all objects

rows_marked : (input : Input) (g : Placing) → AreFew input → (object : ℕ) (objects : List Object)
    (maps : List WasmObjectIndexMap) → AreRows (IsWholeMap input g) object objects maps
    → sum_by dropped_in maps ≡ unkept_from input object objects
rows_marked input g few object [] [] are = refl
rows_marked input g few object [] (m ∷ maps) are = absurd are
rows_marked input g few object (o ∷ objects) [] are = absurd are
rows_marked input g few object (o ∷ objects) (m ∷ maps) are =
    sum_by-cons dropped_in m maps
    ∙ ap (λ n. n + sum_by dropped_in maps) (object_marked input g few object o m are.0)
    ∙ ap (λ n. unkept_in input object o + n) (rows_marked input g few (object + 1) objects maps are.1)

pub plan_marked : (link : Link) (plan : LinkPlan) (is : IsPlanOf link plan)
    → sum_by dropped_in plan.layout.object_index_maps
    ≡ unkept_from (input_of link is.live) 0 link.objects
plan_marked link plan is =
    rows_marked (input_of link is.live) is.is_plan.placing (few_of_plan link plan is) 0 link.objects
    plan.layout.object_index_maps is.is_plan.spaces.maps
