-- Functions, imports and globals of the output are fixed by the link and by where things lie.
use Rattle.std.proofs.Common.{◌≡◌, ◌∙◌, ℕ, ◌+◌, Bool, true, false, List, [], ◌∷◌, ◌++◌, refl, sym, ap, subst, inl, inr, Option, Some, None, slice_get, map, if◌then◌else◌}
use Rattle.std.specs.Int.{w32, cast_signed}
use Rattle.std.specs.Prelude.{MatchOption}
use Rattle.wl_module.specs.Globals.{DefinedGlobal}
use Rattle.wl_module.specs.Types.{FunctionType}
use Rattle.wl_module.specs.declared.globals.GlobalType.{GlobalType}
use Rattle.wl_linking.specs.Object.{Object}
use Rattle.wl_symbols.specs.declared.linker_symbol.WasmLinkerSymbol.{WasmLinkerSymbol}
use Rattle.wl_symbols.specs.declared.linker_symbol.WasmLinkerSymbol.TheVariants.{CallCtors, InitTls}
use Rattle.wl_symbols.specs.ImportSlots.{ImportSlot}
use Rattle.wl_symbols.specs.Left.{first_imports}
use Rattle.wl_bind.specs.EntryTypes.{type_of_entry, type_of_slot}
use Rattle.wl_bind.specs.FunctionBinding.{link_stubs, host_functions}
use Rattle.wl_bind.specs.FunctionSpace.{FunctionEntry, FunctionOf, InitMemory, host_function_part, made_function_part, init_memory_part, stub_part, kept_functions, functions_of, object_functions, function_parts, function_space}
use Rattle.wl_bind.specs.GlobalSpace.{GlobalOf, AddressOf, DataOf}
use Rattle.wl_symbols.specs.Input.{Input}
use Rattle.wl_bind.specs.Made.{is_made, has_init_memory}
use Rattle.wl_bind.specs.Parts.{StandOnce, joined, by_object}
use Rattle.wl_bind.specs.Scan.{table_functions}
use Rattle.wl_bind.specs.Shared.{function_imports, global_imports}
use Rattle.wl_bind.specs.declared.binding.FunctionTarget.{FunctionTarget}
use Rattle.wl_bind.specs.declared.binding.FunctionTarget.TheVariants as function
use Rattle.wl_bind.specs.declared.binding.GlobalTarget.TheVariants.{Defined, Made, GotMem, GotFunc, Host}
use Rattle.wl_exports.specs.Wrappers.{wrapped}
use Rattle.wl_plan.specs.Functions.{own_functions, origin_of, IsTypeNumber, IsOutputFunction, IsWrapperFunction, AreOutputFunctions}
use Rattle.wl_plan.specs.Globals.{IsConstant, start_of_global, global_in, IsMadeGlobal, IsGlobalOf, IsPlannedGlobal, own_globals, ArePlannedGlobals}
use Rattle.wl_plan.specs.Imports.{IsFunctionImport, IsGlobalImport, global_type_of_slot, memory_imports, AreImports}
use Rattle.wl_plan.specs.Origins.{Origin, PlannedFunction}
use Rattle.wl_plan.specs.PlannedImports.{PlannedImport}
use Rattle.wl_plan.specs.Table.{IsElement, AreElements}
use Rattle.wl_output.specs.declared.entities.GlobalOrigin.{GlobalOrigin}
use Rattle.wl_output.specs.declared.entities.OutputImportEntity.{OutputImportEntity}
use Rattle.wl_output.specs.declared.entities.OutputImportEntity.TheVariants as imported
use Rattle.wl_plan.specs.declared.layout.PlannedGlobal.{PlannedGlobal}
use Rattle.wl_places.specs.declared.placing.Placing.{Placing}
use Rattle.wl_lists.proofs.In.{IsIn, in_at, in_split}
use Rattle.wl_plan.proofs.UniqueParts.{some_one, GivesOne, zip_one}
use Rattle.wl_plan.proofs.UniqueBodies.{FormsAreOne, exported_one, ok_one}

-- ---- functions

type_one : (types : List FunctionType) → StandOnce types → (ty : Option FunctionType) (i k : ℕ)
    → IsTypeNumber types ty i → IsTypeNumber types ty k → i ≡ k
type_one types once ty i k p q =
    let same = some_one ty p.0 q.0 p.1 q.1 in
    once i k q.0 (p.2 ∙ ap (λ (t : FunctionType). Some t) same) q.2

make_function : ℕ → Origin → PlannedFunction
make_function type_index from = record { type_index = type_index; origin = from }

function_one : (input : Input) (types : List FunctionType) → StandOnce types
    → GivesOne (IsOutputFunction input types)
unfolding make_function
function_one input types once entry x y p q =
    let index = type_one types once (type_of_entry input entry) x.type_index y.type_index p.typed q.typed in
    let from = some_one (origin_of input entry) x.origin y.origin p.origin q.origin in
    let h : make_function x.type_index x.origin ≡ make_function y.type_index y.origin =
    rw (index, from) refl in
    h

wrapper_one : (input : Input) (types : List FunctionType) → StandOnce types
    → GivesOne (IsWrapperFunction input types)
unfolding make_function
wrapper_one input types once e x y p q =
    let function = exported_one e.entity p.function q.function p.leads q.leads in
    let typed = subst (λ (f : FunctionEntry). IsTypeNumber types (type_of_entry input f) x.type_index)
    function p.typed in
    let index = type_one types once (type_of_entry input q.function) x.type_index y.type_index typed q.typed in
    let from : x.origin ≡ y.origin = p.origin ∙ sym q.origin in
    let h : make_function x.type_index x.origin ≡ make_function y.type_index y.origin =
    rw (index, from) refl in
    h

pub functions_one : (input : Input) (types : List FunctionType) → StandOnce types
    → (xs ys : List PlannedFunction) → AreOutputFunctions input types xs
    → AreOutputFunctions input types ys → xs ≡ ys
functions_one input types once xs ys p q =
    let own = zip_one (IsOutputFunction input types) (function_one input types once) (own_functions input)
    p.own q.own p.are_own q.are_own in
    let wrappers = zip_one (IsWrapperFunction input types) (wrapper_one input types once) (wrapped input)
    p.wrappers q.wrappers p.are_wrappers q.are_wrappers in
    p.parts ∙ (ap (λ (fs : List PlannedFunction). fs ++ p.wrappers) own
    ∙ (ap (λ (fs : List PlannedFunction). q.own ++ fs) wrappers ∙ sym q.parts))

-- ---- imports

make_import : List ℕ → List ℕ → OutputImportEntity → PlannedImport
make_import origin name entity = record { origin = origin; name = name; entity = entity }

import_is : (x y : PlannedImport) → x.origin ≡ y.origin → x.name ≡ y.name → x.entity ≡ y.entity → x ≡ y
unfolding make_import
import_is x y origin name entity =
    let h : make_import x.origin x.name x.entity ≡ make_import y.origin y.name y.entity =
    rw (origin, name, entity) refl in
    h

function_import_one : (input : Input) (types : List FunctionType) → StandOnce types
    → GivesOne (IsFunctionImport input types)
function_import_one input types once h x y p q =
    let number = type_one types once (type_of_slot input h.object h.slot) p.number q.number p.typed q.typed in
    import_is x y (p.origin ∙ sym q.origin) (p.name ∙ sym q.name)
    (p.entity ∙ ap (λ (n : ℕ). imported.Function n) number ∙ sym q.entity)

global_import_one : (input : Input) → GivesOne (IsGlobalImport input)
global_import_one input h x y p q =
    let ty = some_one (global_type_of_slot input h.object h.slot) p.ty q.ty p.typed q.typed in
    import_is x y (p.origin ∙ sym q.origin) (p.name ∙ sym q.name)
    (p.entity ∙ ap (λ (t : GlobalType). imported.Global t) ty ∙ sym q.entity)

pub imports_one : (input : Input) (types : List FunctionType) (g : Placing) → StandOnce types
    → (xs ys : List PlannedImport) → AreImports input types g xs → AreImports input types g ys → xs ≡ ys
imports_one input types g once xs ys p q =
    let functions = zip_one (IsFunctionImport input types) (function_import_one input types once)
    (function_imports input) p.functions q.functions p.are_functions q.are_functions in
    let globals = zip_one (IsGlobalImport input) (global_import_one input) (global_imports input)
    p.globals q.globals p.are_globals q.are_globals in
    p.all ∙ ap (λ (fs : List PlannedImport). fs ++ p.globals ++ memory_imports input g) functions
    ∙ ap (λ (gs : List PlannedImport). q.functions ++ gs ++ memory_imports input g) globals ∙ sym q.all

-- ---- the table

element_one : (input : Input) → StandOnce (function_space input) → GivesOne (IsElement input)
element_one input once target i k p q = once i k (FunctionOf target) p q

pub elements_one : (input : Input) → StandOnce (function_space input) → (xs ys : List ℕ)
    → AreElements input xs → AreElements input ys → xs ≡ ys
elements_one input once xs ys p q =
    zip_one (IsElement input) (element_one input once) (table_functions input) xs ys p q

-- ---- the function that runs at the start

none_mapped : {X : Type 0} (f : X → FunctionTarget) (xs : List X)
    → IsIn (map (λ (x : X). FunctionOf (f x)) xs) InitMemory → ⊥
none_mapped f [] h = h
none_mapped f (x ∷ xs) h = elim h [ inl e ↦ absurd (cc) | inr r ↦ none_mapped f xs r ]

none_if : (test : Bool) (target : FunctionTarget)
    → IsIn (if test then FunctionOf target ∷ [] else []) InitMemory → ⊥
none_if true target h = elim h [ inl e ↦ absurd (cc) | inr r ↦ r ]
none_if false target h = h

none_by_object : (f : ℕ → Object → List FunctionEntry)
    → ((i : ℕ) (o : Object) → IsIn (f i o) InitMemory → ⊥) → (i : ℕ) (objects : List Object)
    → IsIn (by_object f i objects) InitMemory → ⊥
none_by_object f none i [] h = h
none_by_object f none i (o ∷ objects) h = elim (in_split (f i o) (by_object f (i + 1) objects) InitMemory h) [
  | inl l ↦ none i o l
  | inr r ↦ none_by_object f none (i + 1) objects r
]

none_joined : (xs ys : List FunctionEntry) → (IsIn xs InitMemory → ⊥) → (IsIn ys InitMemory → ⊥)
    → IsIn (xs ++ ys) InitMemory → ⊥
none_joined xs ys left right h = elim (in_split xs ys InitMemory h) [ inl a ↦ left a | inr b ↦ right b ]

-- what isn't on the left is on the right
behind_none : (xs ys : List FunctionEntry) → (IsIn xs InitMemory → ⊥) → IsIn (xs ++ ys) InitMemory
    → IsIn ys InitMemory
behind_none xs ys left h =
    elim (in_split xs ys InitMemory h) [ inl a ↦ absurd (left a) | inr b ↦ b ]

only_if : (test : Bool) → IsIn (if test then InitMemory ∷ [] else []) InitMemory → test ≡ true
only_if true h = refl
only_if false h = absurd h

only_front : (test : Bool) (ys : List FunctionEntry) → (IsIn ys InitMemory → ⊥)
    → IsIn ((if test then InitMemory ∷ [] else []) ++ ys) InitMemory → test ≡ true
only_front test ys none h =
    elim (in_split (if test then InitMemory ∷ [] else []) ys InitMemory h) [
      | inl a ↦ only_if test a
      | inr b ↦ absurd (none b)
    ]

-- no object defines it
none_defined : (input : Input) → IsIn (object_functions input) InitMemory → ⊥
none_defined input h =
    none_by_object (functions_of input)
    (λ i o z. none_mapped (λ (k : ℕ). function.Defined i k) (kept_functions input i o) z)
    0 input.link.objects h

none_stub : (input : Input) → IsIn (stub_part input) InitMemory → ⊥
none_stub input h =
    none_mapped (λ (t : ImportSlot). function.Stub t.object t.number) (link_stubs input) h

none_host : (input : Input) → IsIn (host_function_part input) InitMemory → ⊥
none_host input h =
    none_mapped (λ (t : ImportSlot). function.Host t.object t.number)
    (first_imports (host_functions input)) h

none_made : (input : Input) (m : WasmLinkerSymbol) → IsIn (made_function_part input m) InitMemory → ⊥
none_made input m h = none_if (is_made input m) (function.Made m) h

-- what comes after that part, and before what objects define
abbrev stubs_behind : Input → List FunctionEntry
stubs_behind input = stub_part input ++ []

abbrev init_behind : Input → List FunctionEntry
init_behind input = init_memory_part input ++ stubs_behind input

abbrev tls_behind : Input → List FunctionEntry
tls_behind input = made_function_part input InitTls ++ init_behind input

abbrev made_behind : Input → List FunctionEntry
made_behind input = made_function_part input CallCtors ++ tls_behind input

-- it is in the space only where there is something to copy
init_memory_there : (input : Input) → IsIn (function_space input) InitMemory → has_init_memory input ≡ true
init_memory_there input h =
    let parts : IsIn (host_function_part input ++ made_behind input) InitMemory =
    elim (in_split (joined (function_parts input)) (object_functions input) InitMemory h) [
      | inl l ↦ l
      | inr r ↦ absurd (none_defined input r)
    ] in
    let made = behind_none (host_function_part input) (made_behind input) (none_host input) parts in
    let tls = behind_none (made_function_part input CallCtors) (tls_behind input) (none_made input CallCtors) made in
    let init = behind_none (made_function_part input InitTls) (init_behind input) (none_made input InitTls) tls in
    only_front (has_init_memory input) (stubs_behind input)
    (none_joined (stub_part input) [] (none_stub input) (λ z. z)) init

-- the index of that function, if it is in the space
abbrev pub IsStart : Input → Option ℕ → Type 0
IsStart input start =
    MatchOption start (has_init_memory input ≡ false)
    (λ index. slice_get (function_space input) index ≡ Some InitMemory)

none_beside : (input : Input) (index : ℕ) → has_init_memory input ≡ false
    → slice_get (function_space input) index ≡ Some InitMemory → ⊥
none_beside input index none at =
    let is = init_memory_there input (in_at (function_space input) index InitMemory at) in
    absurd (cc)

pub start_one : (input : Input) → StandOnce (function_space input) → (x y : Option ℕ)
    → IsStart input x → IsStart input y → x ≡ y
start_one input once None None p q = refl
start_one input once None (Some k) p q = absurd (none_beside input k p q)
start_one input once (Some i) None p q = absurd (none_beside input i q p)
start_one input once (Some i) (Some k) p q = ap (λ (n : ℕ). Some n) (once i k InitMemory p q)

-- ---- globals

constant_one : FormsAreOne → (n : ℕ) (x y : List ℕ) → IsConstant n x → IsConstant n y → x ≡ y
constant_one forms n x y p q =
    p.parts ∙ ap (λ (t : List ℕ). (0x41 ∷ []) ++ t) (forms.signed (cast_signed w32 n) p.text q.text p.short q.short)
    ∙ sym q.parts

make_defined : GlobalType → List ℕ → Bool → DefinedGlobal
make_defined ty body owned = record { ty = ty; body = body; owned = owned }

made_global_one : FormsAreOne → (input : Input) (g : Placing) → GivesOne (IsMadeGlobal input g)
unfolding make_defined
made_global_one forms input g entry x y p q =
    let number = ok_one (start_of_global input g entry) p.number q.number p.starts q.starts in
    let ty : x.ty ≡ y.ty = p.ty ∙ sym q.ty in
    let body = constant_one forms q.number x.body y.body
    (subst (λ (n : ℕ). IsConstant n x.body) number p.body) q.body in
    let owned : x.owned ≡ y.owned = p.owned ∙ sym q.owned in
    let h : make_defined x.ty x.body x.owned ≡ make_defined y.ty y.body y.owned =
    rw (ty, body, owned) refl in
    h

global_of_one : FormsAreOne → (input : Input) (g : Placing) → GivesOne (IsGlobalOf input g)
global_of_one forms input g (GlobalOf (Defined object global)) x y p q =
    some_one (global_in input.link.objects object global) x y p q
global_of_one forms input g (GlobalOf (Made m)) x y p q =
    made_global_one forms input g (GlobalOf (Made m)) x y p q
global_of_one forms input g (GlobalOf (GotMem place)) x y p q =
    made_global_one forms input g (GlobalOf (GotMem place)) x y p q
global_of_one forms input g (GlobalOf (GotFunc place)) x y p q =
    made_global_one forms input g (GlobalOf (GotFunc place)) x y p q
global_of_one forms input g (GlobalOf (Host object slot)) x y p q =
    made_global_one forms input g (GlobalOf (Host object slot)) x y p q
global_of_one forms input g (AddressOf m) x y p q =
    made_global_one forms input g (AddressOf m) x y p q
global_of_one forms input g (DataOf d) x y p q = made_global_one forms input g (DataOf d) x y p q

make_global : DefinedGlobal → GlobalOrigin → PlannedGlobal
make_global global from = record { global = global; origin = from }

global_one : FormsAreOne → (input : Input) (g : Placing) → GivesOne (IsPlannedGlobal input g)
unfolding make_global
global_one forms input g entry x y p q =
    let global = global_of_one forms input g entry x.global y.global p.global_is q.global_is in
    let from : x.origin ≡ y.origin = p.origin_is ∙ sym q.origin_is in
    let h : make_global x.global x.origin ≡ make_global y.global y.origin = rw (global, from) refl in
    h

pub globals_one : FormsAreOne → (input : Input) (g : Placing) → (xs ys : List PlannedGlobal)
    → ArePlannedGlobals input g xs → ArePlannedGlobals input g ys → xs ≡ ys
globals_one forms input g xs ys p q =
    zip_one (IsPlannedGlobal input g) (global_one forms input g) (own_globals input) xs ys p q
