-- A plan of objects can be loaded: what it names by numbers is there.
use Rattle.std.proofs.Common.{◌≡◌, ◌∙◌, ℕ, ◌+◌, ◌*◌, ◌<◌, ◌≤◌, Bool, true, false, List, [], ◌∷◌, ◌++◌, length, refl, sym, ap, arith, inl, inr, Option, Some, None, slice_get, append-nil, append_assoc, length-append, suc, add-one}
use Rattle.std.specs.Prelude.{IfSome, Contains}
use Rattle.std.specs.Option.{option_map_or}
use Rattle.std.specs.List.{AllByRecursion, AllZip}
use Rattle.std.proofs.Math.Nat.{le-div_iff_mul-le, le-max_right}
use Rattle.std.proofs.lemmas.Bool.{cases_lt}
use Rattle.std.proofs.lemmas.List.{length-drop, length-map}
use Rattle.std.proofs.lemmas.Grind.{flat_map-append}
use Rattle.std.proofs.lemmas.Option.{slice_get_within}
use Rattle.wl_lists.proofs.Beside.{zip_length}
use Rattle.wl_lists.proofs.In.{at_is_in}
use Rattle.wl_linking.specs.Steps.{Clear, NoStep}
use Rattle.wl_linking.specs.declared.error.LinkError.TheVariants.{BadMemorySize}
use Rattle.wl_linking.specs.declared.error.MemoryBound.TheVariants.{Maximum}
use Rattle.wl_linking.proofs.StepLaws.{first_clear, rest_clear}
use Rattle.wl_module.specs.Types.{FunctionType}
use Rattle.wl_module.specs.declared.limits.MemoryType.{MemoryType}
use Rattle.wl_module.specs.declared.limits.TheConstants.{WASM_PAGE_SIZE}
use Rattle.wl_words.specs.Values.{MemoryName}
use Rattle.wl_symbols.specs.Input.{Input}
use Rattle.wl_symbols.specs.Left.{HostImport}
use Rattle.wl_symbols.specs.Link.{Link}
use Rattle.wl_data.specs.MemorySize.{IsMaximumRefused, new_maximum}
use Rattle.wl_bind.specs.FunctionSpace.{function_space, host_function_part}
use Rattle.wl_bind.specs.OutputTypes.{output_types}
use Rattle.wl_bind.specs.Scan.{table_functions}
use Rattle.wl_bind.specs.Shared.{function_imports, global_imports}
use Rattle.wl_plan.specs.Faults.{input_of, kept_fault}
use Rattle.wl_plan.specs.Functions.{IsOutputFunction, own_functions}
use Rattle.wl_plan.specs.Imports.{IsFunctionImport, IsGlobalImport, memory_import, memory_imports}
use Rattle.wl_plan.specs.LinkPlan.{IsPlanOf}
use Rattle.wl_plan.specs.Origins.{PlannedFunction}
use Rattle.wl_places.specs.Placing.{IsMemoryFault, memory_pages, memory_steps, output_memory}
use Rattle.wl_plan.specs.Plan.{IsPlan}
use Rattle.wl_plan.specs.PlannedImports.{PlannedImport}
use Rattle.wl_plan.specs.Table.{IsElement}
use Rattle.wl_plan.specs.declared.layout.LinkPlan.{LinkPlan}
use Rattle.wildplan.specs.Loading.{CanBeLoaded, HasFunction, HasType, host_type, host_types, imported_memory, memory_of}

-- ---- lists

-- what stands beside something is what that asks for
zip_each : {X Y : Type 0} (R : X → Y → Type 0) (P : Y → Type 0) (xs : List X) (ys : List Y)
    → ((x : X) (y : Y) → R x y → P y) → AllZip R xs ys → AllByRecursion P ys
zip_each R P [] [] each h = tt
zip_each R P [] (y ∷ ys) each h = absurd h
zip_each R P (x ∷ xs) [] each h = absurd h
zip_each R P (x ∷ xs) (y ∷ ys) each h = (each x y h.0, zip_each R P xs ys each h.1)

-- what holds of all that a list has holds of it one by one
each_of : {X : Type 0} (P : X → Type 0) (xs : List X) → ((i : ℕ) (x : X) → slice_get xs i ≡ Some x → P x) → AllByRecursion P xs
each_of P [] each = tt
each_of P (x ∷ xs) each = (each 0 x refl, each_of P xs (λ i y here. each (i + 1) y (later i y here)))
  where
    later : (i : ℕ) (y : _) → slice_get xs i ≡ Some y → slice_get (x ∷ xs) (i + 1) ≡ Some y
    later i y here = rw add-one here

-- ---- imported functions

hosts_typed : (input : Input) (types : List FunctionType) (P : ℕ → Type 0) (hs : List HostImport) (is : List PlannedImport)
    → ((n : ℕ) → n < length types → P n) → AllZip (IsFunctionImport input types) hs is → AllByRecursion P (host_types is)
hosts_typed input types P [] [] fits all = tt
hosts_typed input types P [] (i ∷ is) fits all = absurd all
hosts_typed input types P (h ∷ hs) [] fits all = absurd all
hosts_typed input types P (h ∷ hs) (i ∷ is) fits all =
    let one = all.0 in
    rw one.entity (fits one.number (slice_get_within types one.number one.typed.0 one.typed.2), hosts_typed input types P hs is fits all.1)

hosts_count : (input : Input) (types : List FunctionType) (hs : List HostImport) (is : List PlannedImport)
    → AllZip (IsFunctionImport input types) hs is → length (host_types is) ≡ length hs
hosts_count input types [] [] all = refl
hosts_count input types [] (i ∷ is) all = absurd all
hosts_count input types (h ∷ hs) [] all = absurd all
hosts_count input types (h ∷ hs) (i ∷ is) all = rw (all.0).entity (ap suc (hosts_count input types hs is all.1))

no_hosts : (input : Input) (hs : List HostImport) (is : List PlannedImport)
    → AllZip (IsGlobalImport input) hs is → host_types is ≡ []
no_hosts input [] [] all = refl
no_hosts input [] (i ∷ is) all = absurd all
no_hosts input (h ∷ hs) [] all = absurd all
no_hosts input (h ∷ hs) (i ∷ is) all = rw (all.0).entity (no_hosts input hs is all.1)

no_memory_host : (m : MemoryType) (o : Option MemoryName)
    → host_types (option_map_or (λ (name : MemoryName). memory_import m name ∷ []) o []) ≡ []
no_memory_host m None = refl
no_memory_host m (Some name) = refl

-- those of all imports are those of the functions
hosts_are : (input : Input) (plan : LinkPlan) (p : IsPlan input plan)
    → host_types plan.layout.imports ≡ host_types p.spaces.imports.functions
hosts_are input plan p =
    let h = p.spaces.imports in
    let types = λ (i : PlannedImport). host_type i.entity in
    let memory = no_memory_host p.placing.memory input.link.args.import_memory in
    let globals = no_hosts input (global_imports input) h.globals h.are_globals in
    let front : host_types (h.functions ++ h.globals) ≡ host_types h.functions =
    flat_map-append types h.functions h.globals ∙ ap (λ (ns : List ℕ). host_types h.functions ++ ns) globals
    ∙ append-nil (host_types h.functions) in
    ap (λ (is : List PlannedImport). host_types is) h.all
    ∙ flat_map-append types (h.functions ++ h.globals) (memory_imports input p.placing)
    ∙ ap (λ (ns : List ℕ). host_types (h.functions ++ h.globals) ++ ns) memory
    ∙ append-nil (host_types (h.functions ++ h.globals)) ∙ front

-- ---- the memory

behind_functions : (input : Input) (types : List FunctionType) (hs : List HostImport) (is rest : List PlannedImport)
    → AllZip (IsFunctionImport input types) hs is → imported_memory (is ++ rest) ≡ imported_memory rest
behind_functions input types [] [] rest all = refl
behind_functions input types [] (i ∷ is) rest all = absurd all
behind_functions input types (h ∷ hs) [] rest all = absurd all
behind_functions input types (h ∷ hs) (i ∷ is) rest all = rw (all.0).entity (behind_functions input types hs is rest all.1)

behind_globals : (input : Input) (hs : List HostImport) (is rest : List PlannedImport)
    → AllZip (IsGlobalImport input) hs is → imported_memory (is ++ rest) ≡ imported_memory rest
behind_globals input [] [] rest all = refl
behind_globals input [] (i ∷ is) rest all = absurd all
behind_globals input (h ∷ hs) [] rest all = absurd all
behind_globals input (h ∷ hs) (i ∷ is) rest all = rw (all.0).entity (behind_globals input hs is rest all.1)

memory_among : (input : Input) (plan : LinkPlan) (p : IsPlan input plan)
    → imported_memory plan.layout.imports ≡ imported_memory (memory_imports input p.placing)
memory_among input plan p =
    let h = p.spaces.imports in
    let rest = memory_imports input p.placing in
    ap (λ (is : List PlannedImport). imported_memory is) (h.all ∙ append_assoc h.functions h.globals rest)
    ∙ behind_functions input (output_types input) (function_imports input) h.functions (h.globals ++ rest) h.are_functions
    ∙ behind_globals input (global_imports input) h.globals rest h.are_globals

-- the plan's own memory, or the imported one, is that of the placing
memory_is : (input : Input) (plan : LinkPlan) (p : IsPlan input plan) → memory_of plan ≡ p.placing.memory
memory_is input plan p = at input.link.args.import_memory refl
  where
    at : (o : Option MemoryName) → input.link.args.import_memory ≡ o → memory_of plan ≡ p.placing.memory
    at None is =
        let own : plan.layout.memory ≡ Some p.placing.memory = p.places.memory ∙ rw is refl in
        rw own refl
    at (Some name) is =
        let own : plan.layout.memory ≡ None = p.places.memory ∙ rw is refl in
        let among : imported_memory plan.layout.imports ≡ Some p.placing.memory = memory_among input plan p ∙ rw is refl in
        rw (own, among) refl

-- its maximum isn't below its size at the start
most_holds : (asked : Option ℕ) (shared : Bool) (pages : ℕ)
    → ((m : ℕ) → asked ≡ Some m → pages * WASM_PAGE_SIZE ≤ m)
    → IfSome (new_maximum None asked shared pages) (λ n. pages ≤ n)
most_holds (Some m) shared pages fits = (le-div_iff_mul-le (omega arith)).1 (fits m refl)
most_holds None true pages fits = le-max_right 0 pages
most_holds None false pages fits = tt

-- ---- steps that have no cause

memory_clear : (link : Link) (plan : LinkPlan) (is : IsPlanOf link plan) → Clear (IsMemoryFault (input_of link is.live))
memory_clear link plan is =
    let kept = rest_clear _ _ (rest_clear _ _ (rest_clear _ _ (rest_clear _ _ (rest_clear _ _ (rest_clear _ _ is.clear))))) in
    let later = first_clear _ NoStep kept in
    let all : Clear (kept_fault (input_of link is.live)) = record {
      none = λ e h. later.none e (record { live = is.live; kept = is.kept; fault = h });
    } in
    let bound = rest_clear _ _ (rest_clear _ _ (rest_clear _ _ (rest_clear _ _ (rest_clear _ _ (rest_clear _ _ all))))) in
    let numbered = rest_clear _ _ (rest_clear _ _ bound) in
    first_clear _ _ (rest_clear _ _ (rest_clear _ _ (rest_clear _ _ numbered)))

-- where a greatest size is asked for, the memory at the start isn't above it
most_asked : (link : Link) (plan : LinkPlan) (is : IsPlanOf link plan) (m : ℕ)
    → link.args.max_memory ≡ Some m
    → memory_pages (input_of link is.live) is.is_plan.placing.places * WASM_PAGE_SIZE ≤ m
most_asked link plan is m asked =
    let input : Input = input_of link is.live in
    let g = is.is_plan.placing in
    let clear = memory_clear link plan is in
    let steps : Clear (memory_steps input g.places) = record {
      none = λ e h. clear.none e (record { laid = g.places; places = is.is_plan.placed.laid; fault = h });
    } in
    let sizes = first_clear _ _ (rest_clear _ _ steps) in
    let most : Clear (IsMaximumRefused link.args.max_memory (memory_pages input g.places * WASM_PAGE_SIZE)) =
    first_clear _ NoStep (rest_clear _ _ (rest_clear _ _ sizes)) in
    elim (cases_lt m (memory_pages input g.places * WASM_PAGE_SIZE)) [
      | inr le ↦ le
      | inl gt ↦ absurd (most.none (BadMemorySize Maximum m (memory_pages input g.places * WASM_PAGE_SIZE))
          (m, record { asked_for = asked; bad = inr (inr gt) }, refl))
    ]

-- ---- all of it

pub loadable : (link : Link) (plan : LinkPlan) → IsPlanOf link plan
    → length plan.layout.function_bodies ≡ length plan.layout.function_type_indices
    → ((f : PlannedFunction) → Contains plan.layout.function_type_indices f → f.type_index < length plan.layout.output_types)
    → CanBeLoaded plan
loadable link plan is bodies typed =
    let input : Input = input_of link is.live in
    let p : IsPlan input plan = is.is_plan in
    let g = p.placing in
    let imports = p.spaces.imports in
    let hosts = hosts_are input plan p in
    let count = hosts_count input (output_types input) (function_imports input) imports.functions imports.are_functions in
    let same : length (function_imports input) ≡ length (host_function_part input) = length-map _ _ ∙ sym (length-map _ _) in
    let own = zip_length (IsOutputFunction input (output_types input)) (own_functions input) p.spaces.functions.own p.spaces.functions.are_own in
    let left = length-drop (length (host_function_part input)) (function_space input) in
    let whole = ap (λ (xs : List PlannedFunction). length xs) p.spaces.functions.parts ∙ length-append p.spaces.functions.own p.spaces.functions.wrappers in
    let memory = memory_is input plan p in
    let placed : g.memory ≡ output_memory input g.places = ap (λ (q : _). q.memory) p.placed.whole in
    record {
      hosts = rw hosts (hosts_typed input (output_types input) (HasType plan) (function_imports input) imports.functions (λ n within. rw p.spaces.types within) imports.are_functions);
      functions = each_of (λ (f : PlannedFunction). HasType plan f.type_index) plan.layout.function_type_indices (λ i f here. typed f (at_is_in plan.layout.function_type_indices i f here));
      bodies = bodies;
      elements = zip_each (IsElement input) (HasFunction plan) (table_functions input) plan.layout.element_functions
          (λ t index stands. omega (arith, slice_get_within (function_space input) index _ stands, left, own, whole, same, count, ap (λ (ns : List ℕ). length ns) hosts)) p.entities.elements;
      maximum = rw (memory, placed) (most_holds link.args.max_memory link.args.shared_memory (memory_pages input g.places) (most_asked link plan is));
    }
