-- First values of globals, and parts that fit.
use Rattle.std.proofs.Common.{◌≡◌, ◌∙◌, ◌⊎◌, ℕ, zero, suc, ◌+◌, ◌*◌, ◌<◌, ◌≤◌, List, [], ◌∷◌, ◌++◌, length, map, replicate, get_or, take, drop, Option, Some, None, IfSome, inl, inr, refl, ap, sym, subst, arith}
use Rattle.std.specs.List.{AllByRecursion, AllZip}
use Rattle.std.proofs.Math.Seq.{drop-cons}
use Rattle.wl_module.specs.Bodies.{Body}
use Rattle.wl_module.specs.Types.{FunctionType}
use Rattle.wl_module.specs.declared.limits.TheConstants.{WASM_PAGE_SIZE}
use Rattle.wl_module.specs.declared.limits.TableType.{TableType}
use Rattle.wl_numeric.specs.declared.value.Value.{Value}
use Rattle.wl_load.specs.Loading.{AreFit}
use Rattle.wl_load.specs.declared.error.LoadError.{LoadError}
use Rattle.wl_load.specs.declared.error.LoadError.TheVariants as load
use Rattle.wl_load.specs.declared.memory.TheConstants.{MAX_IMAGE_PAGES}
use Rattle.wl_load.specs.declared.parts.ImageFunction.{ImageFunction}
use Rattle.wl_load.specs.declared.parts.ImageParts.{ImageParts}
use Rattle.wl_output.specs.declared.fixups.Fixup.{Fixup}
use Rattle.wl_plan.specs.Origins.{PlannedFunction}
use Rattle.wl_plan.specs.declared.layout.LinkPlan.{LinkPlan}
use Rattle.wl_plan.specs.declared.layout.PlannedGlobal.{PlannedGlobal}
use Rattle.wl_run.specs.Tables.{first_table}
use Rattle.wl_run.proofs.SizeLaws.{memory_length}
use Rattle.wildplan.specs.Loading.{StartsWith, HasStart, IsFirstUnread, IsInitFault, host_types, image_functions, memory_of, IsParts, CanBeLoaded}

-- ---- globals

-- one more value
pub values_more : (gs : List PlannedGlobal) (vs : List Value) (i : ℕ) (g : PlannedGlobal) (v : Value) → i < length gs → g ≡ get_or gs i g → StartsWith g v
    → AllZip StartsWith (take i gs) vs → AllZip StartsWith (take (suc i) gs) (vs ++ v ∷ [])
values_more [] vs i g v lt at is so_far = absurd (omega arith)
values_more (x ∷ gs) [] zero g v lt at is so_far = (subst (λ (y : PlannedGlobal). StartsWith y v) at is, tt)
values_more (x ∷ gs) (w ∷ vs) zero g v lt at is so_far = absurd so_far
values_more (x ∷ gs) [] (suc i) g v lt at is so_far = absurd so_far
values_more (x ∷ gs) (w ∷ vs) (suc i) g v lt at is so_far =
    (so_far.0, values_more gs vs i g v (omega arith) at is so_far.1)

-- a global that starts with a constant is passed over
pub unread_more : (gs : List PlannedGlobal) (i : ℕ) (g : PlannedGlobal) → i < length gs → g ≡ get_or gs i g → HasStart g
    → ((n : ℕ) → IsFirstUnread (drop i gs) n → IsFirstUnread gs (i + n))
    → (n : ℕ) → IsFirstUnread (drop (suc i) gs) n → IsFirstUnread gs (i + suc n)
unread_more gs i g lt at has behind n unread =
    let next : drop i gs ≡ g ∷ drop (suc i) gs = drop-cons gs i g lt ∙ ap (λ (y : PlannedGlobal). y ∷ drop (suc i) gs) (sym at) in
    behind (suc n) (subst (λ (l : List PlannedGlobal). IsFirstUnread l (suc n)) (sym next) (has, unread))

-- one that doesn't is the first
pub unread_here : (gs : List PlannedGlobal) (i : ℕ) (g : PlannedGlobal) → i < length gs → g ≡ get_or gs i g → (HasStart g → ⊥)
    → ((n : ℕ) → IsFirstUnread (drop i gs) n → IsFirstUnread gs (i + n)) → IsFirstUnread gs i
unread_here gs i g lt at none behind =
    let next : drop i gs ≡ g ∷ drop (suc i) gs = drop-cons gs i g lt ∙ ap (λ (y : PlannedGlobal). y ∷ drop (suc i) gs) (sym at) in
    let same : i + 0 ≡ i = omega arith in
    subst (λ (n : ℕ). IsFirstUnread gs n) same (behind 0 (subst (λ (l : List PlannedGlobal). IsFirstUnread l 0) (sym next) none))

pub init_fault : (gs : List PlannedGlobal) (i : ℕ) (e : LoadError) → IsFirstUnread gs i → (e ≡ load.OutOfMemory) ⊎ (e ≡ load.Init i) → IsInitFault gs e
init_fault gs i e unread (inl is) = subst (λ (x : LoadError). IsInitFault gs x) (sym is) tt
init_fault gs i e unread (inr is) = subst (λ (x : LoadError). IsInitFault gs x) (sym is) unread

-- ---- parts that fit

functions_typed : (n : ℕ) (fixups : List Fixup) (fs : List PlannedFunction) (bs : List Body) → AllByRecursion (λ (f : PlannedFunction). f.type_index < n) fs
    → AllByRecursion (λ (f : ImageFunction). f.type_index < n) (image_functions fixups fs bs)
functions_typed n fixups [] bs all = tt
functions_typed n fixups (f ∷ fs) [] all = tt
functions_typed n fixups (f ∷ fs) (b ∷ bs) all = (all.0, functions_typed n fixups fs bs all.1)

functions_length : (fixups : List Fixup) (fs : List PlannedFunction) (bs : List Body) → length bs ≡ length fs → length (image_functions fixups fs bs) ≡ length fs
functions_length fixups [] bs same = refl
functions_length fixups (f ∷ fs) [] same = absurd (omega arith)
functions_length fixups (f ∷ fs) (b ∷ bs) same = omega (arith, functions_length fixups fs bs (omega arith))

-- a slot is empty, or holds one of so many functions
abbrev IsSlot : ℕ → Option ℕ → Type 0
IsSlot n slot = IfSome slot (λ f. f < n)

empty_slots_fit : (n count : ℕ) → AllByRecursion (IsSlot n) (replicate count None)
empty_slots_fit n zero = tt
empty_slots_fit n (suc count) = (tt, empty_slots_fit n count)

slots_fit : (n count : ℕ) (elements : List ℕ) → AllByRecursion (λ f. f < n) elements → AllByRecursion (IsSlot n) (map Some elements ++ replicate count None)
slots_fit n count [] all = empty_slots_fit n count
slots_fit n count (f ∷ elements) all = (all.0, slots_fit n count elements all.1)

table_fits : (n : ℕ) (table : Option TableType) (elements : List ℕ) → AllByRecursion (λ f. f < n) elements → AllByRecursion (IsSlot n) (first_table table elements)
table_fits n None elements all = tt
table_fits n (Some t) elements all = (tt, slots_fit n _ elements all)

within : (maximum : Option ℕ) (pages size : ℕ) → size ≡ pages * WASM_PAGE_SIZE → IfSome maximum (λ n. pages ≤ n) → IfSome maximum (λ n. size ≤ n * WASM_PAGE_SIZE)
within None pages size is le = tt
within (Some n) pages size is le = omega arith

-- the parts of such a plan fit
pub parts_fit : (plan : LinkPlan) (parts : ImageParts) → CanBeLoaded plan → IsParts plan parts → AreFit parts
parts_fit plan parts can are =
    let pages = (memory_of plan).initial in
    let size : length parts.memory ≡ pages * WASM_PAGE_SIZE = ap (λ (m : List ℕ). length m) are.memory ∙ memory_length plan.fixups pages plan.layout.object_data_layouts in
    let few : pages ≤ MAX_IMAGE_PAGES = are.few_pages in
    let types : plan.layout.output_types ≡ parts.types = sym are.types in
    let hosts : length parts.hosts ≡ length (host_types plan.layout.imports) = ap (λ (xs : List ℕ). length xs) are.hosts in
    let own : length parts.functions ≡ length plan.layout.function_type_indices =
    ap (λ (xs : List ImageFunction). length xs) are.functions ∙ functions_length plan.fixups plan.layout.function_type_indices plan.layout.function_bodies can.bodies in
    let count : length (host_types plan.layout.imports) + length plan.layout.function_type_indices ≡ length parts.hosts + length parts.functions = omega arith in
    record {
      pages = record { whole = omega arith; few = omega arith };
      maximum = subst (λ (m : Option ℕ). IfSome m (λ n. length parts.memory ≤ n * WASM_PAGE_SIZE)) (sym are.maximum_pages)
          (within (memory_of plan).maximum pages (length parts.memory) size can.maximum);
      hosts = subst (λ (xs : List ℕ). AllByRecursion (λ t. t < length parts.types) xs) (sym are.hosts)
          (subst (λ (ts : List FunctionType). AllByRecursion (λ t. t < length ts) (host_types plan.layout.imports)) types can.hosts);
      functions = subst (λ (fs : List ImageFunction). AllByRecursion (λ (f : ImageFunction). f.type_index < length parts.types) fs) (sym are.functions)
          (functions_typed (length parts.types) plan.fixups plan.layout.function_type_indices plan.layout.function_bodies
          (subst (λ (ts : List FunctionType). AllByRecursion (λ (f : PlannedFunction). f.type_index < length ts) plan.layout.function_type_indices) types can.functions));
      table = subst (λ (ss : List (Option ℕ)). AllByRecursion (IsSlot (length parts.hosts + length parts.functions)) ss) (sym are.table)
          (table_fits (length parts.hosts + length parts.functions) plan.layout.table plan.layout.element_functions
          (subst (λ (n : ℕ). AllByRecursion (λ f. f < n) plan.layout.element_functions) count can.elements));
    }
