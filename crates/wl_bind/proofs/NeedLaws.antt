-- What the linker is asked for, slot by slot and segment by segment.
use Rattle.std.proofs.Common.{◌≡◌, ◌∙◌, ◌&&◌, ◌||◌, ℕ, suc, ◌+◌, ◌<◌, ◌≤◌, Bool, true, false, List, [], ◌∷◌, ◌++◌, length, map, filter, get_or, drop, drop-cons, add-one, refl, sym, ap, inl, inr, arith, if◌then◌else◌}
use Rattle.std.proofs.Math.Bool.{or_assoc, or-false}
use Rattle.std.specs.List.{list_any, range_with_len}
use Rattle.std.proofs.lemmas.Bool.{cases_Bool}
use Rattle.std.proofs.lemmas.List.{drop_all}
use Rattle.std.proofs.lemmas.List.Elements.{filter-append}
use Rattle.std.proofs.lemmas.List.Folds.{list_any-append}
use Rattle.std.proofs.lemmas.List.FromFn.{length-range_with_len, get_or-range_with_len}
use Rattle.wl_linking.specs.Object.{Object}
use Rattle.wl_custom.specs.declared.symbols.WasmSymbolKind.TheVariants.{Func, Global}
use Rattle.wl_symbols.specs.declared.linker_symbol.WasmLinkerSymbol.{WasmLinkerSymbol}
use Rattle.wl_symbols.specs.ImportSlots.{ImportSlot, object_slots}
use Rattle.wl_symbols.specs.Input.{Input}
use Rattle.wl_symbols.specs.KeptSlots.{slots_from, is_kept_slot}
use Rattle.wl_bind.specs.FunctionBinding.{binds_function}
use Rattle.wl_bind.specs.GlobalBinding.{binds_global}
use Rattle.wl_bind.specs.Made.{is_made_function, is_made_global, is_bound}
use Rattle.wl_bind.specs.steps.Needs.{leads_to, row_leads_to}
use Rattle.wl_bind.specs.Resolutions.{as_function, as_global, function_resolution, global_resolution, rows_from, by_all_rules, resolutions}
use Rattle.wl_bind.specs.declared.binding.FunctionTarget.{FunctionTarget}
use Rattle.wl_bind.specs.declared.binding.FunctionTarget.TheVariants as function
use Rattle.wl_bind.specs.declared.binding.GlobalTarget.{GlobalTarget}
use Rattle.wl_bind.specs.declared.binding.GlobalTarget.TheVariants as global
use Rattle.wl_bind.specs.declared.resolution.ImportResolution.TheVariants.{Unresolved}
use Rattle.wl_bind.specs.declared.resolution.ObjectImportResolutions.{ObjectImportResolutions}

-- ---- numbers one by one

-- one number more
pub number_more : (test : ℕ → Bool) (n k : ℕ) (before here after all : Bool) → k < n
    → here ≡ test k → after ≡ (before || here)
    → (before || list_any test (drop k (range_with_len 0 n))) ≡ all
    → (after || list_any test (drop (k + 1) (range_with_len 0 n))) ≡ all
number_more test n k before here after all lt is joined so_far =
    let numbers : List ℕ = range_with_len 0 n in
    let within : k < length numbers = omega (arith, length-range_with_len 0 n, lt) in
    let same : 0 + k ≡ k = omega arith in
    let number : get_or numbers k 0 ≡ k = get_or-range_with_len 0 n k 0 lt ∙ same in
    let split : drop k numbers ≡ k ∷ drop (k + 1) numbers =
    rw (add-one) (drop-cons numbers k 0 within
    ∙ ap (λ (m : ℕ). m ∷ drop (suc k) numbers) number) in
    let rest : Bool = list_any test (drop (k + 1) numbers) in
    ap (λ (b : Bool). b || rest) (joined ∙ ap (λ (b : Bool). before || b) is)
    ∙ (or_assoc before (test k) rest
    ∙ (ap (λ (ks : List ℕ). before || list_any test ks) (sym split) ∙ so_far))

-- the last number
pub number_end : (test : ℕ → Bool) (n k : ℕ) (so_far all : Bool) → n ≤ k
    → (so_far || list_any test (drop k (range_with_len 0 n))) ≡ all → so_far ≡ all
number_end test n k so_far all le is =
    let numbers : List ℕ = range_with_len 0 n in
    let past : length numbers ≤ k = omega (arith, length-range_with_len 0 n, le) in
    sym (or-false so_far)
    ∙ (ap (λ (ks : List ℕ). so_far || list_any test ks) (sym (drop_all k numbers past)) ∙ is)

-- ---- slots

-- what is made of those that are kept
any_kept : {X Y : Type 0} (keeps passes : X → Bool) (f : X → Y) (test : Y → Bool)
    → ((x : X) → test (f x) ≡ (keeps x && passes x))
    → (xs : List X) → list_any test (map f xs) ≡ list_any passes (filter keeps xs)
any_kept keeps passes f test same [] = refl
any_kept keeps passes f test same (x ∷ xs) =
    rw (same x, any_kept keeps passes f test same xs) (elim (cases_Bool (keeps x)) [
      | inl t ↦ rw t refl
      | inr n ↦ rw n refl
    ])

function_is : (input : Input) (t : ImportSlot) (m : WasmLinkerSymbol) (kept : Bool)
    (f : FunctionTarget)
    → leads_to m (if kept then as_function input t f else Unresolved)
    ≡ (kept && is_made_function m f)
function_is input t m true (function.Made n) = refl
function_is input t m _ _ = refl

global_is : (input : Input) (m : WasmLinkerSymbol) (kept : Bool) (g : GlobalTarget)
    → leads_to m (if kept then as_global input g else Unresolved) ≡ (kept && is_made_global m g)
global_is input m true (global.Made n) = refl
global_is input m _ _ = refl

-- ---- the slots of all objects

-- a function slot of these objects is bound to it, the first of which has that number
abbrev functions_bound : Input → WasmLinkerSymbol → List ImportSlot → Bool
functions_bound input m slots =
    list_any (λ (t : ImportSlot). is_made_function m (binds_function input t))
    (filter (is_kept_slot input) slots)

abbrev globals_bound : Input → WasmLinkerSymbol → List ImportSlot → Bool
globals_bound input m slots =
    list_any (λ (t : ImportSlot). is_made_global m (binds_global input t))
    (filter (is_kept_slot input) slots)

functions_of : (input : Input) (m : WasmLinkerSymbol) (slots : List ImportSlot)
    → list_any (leads_to m) (map (function_resolution input) slots) ≡ functions_bound input m slots
functions_of input m slots =
    any_kept (is_kept_slot input) (λ (t : ImportSlot). is_made_function m (binds_function input t))
    (function_resolution input) (leads_to m)
    (λ t. function_is input t m (is_kept_slot input t) (binds_function input t)) slots

globals_of : (input : Input) (m : WasmLinkerSymbol) (slots : List ImportSlot)
    → list_any (leads_to m) (map (global_resolution input) slots) ≡ globals_bound input m slots
globals_of input m slots =
    any_kept (is_kept_slot input) (λ (t : ImportSlot). is_made_global m (binds_global input t))
    (global_resolution input) (leads_to m)
    (λ t. global_is input m (is_kept_slot input t) (binds_global input t)) slots

functions_more : (input : Input) (m : WasmLinkerSymbol) (xs ys : List ImportSlot)
    → functions_bound input m (xs ++ ys)
    ≡ (functions_bound input m xs || functions_bound input m ys)
functions_more input m xs ys =
    let test = λ (t : ImportSlot). is_made_function m (binds_function input t) in
    ap (list_any test) (filter-append (is_kept_slot input) xs ys)
    ∙ list_any-append test (filter (is_kept_slot input) xs) (filter (is_kept_slot input) ys)

globals_more : (input : Input) (m : WasmLinkerSymbol) (xs ys : List ImportSlot)
    → globals_bound input m (xs ++ ys) ≡ (globals_bound input m xs || globals_bound input m ys)
globals_more input m xs ys =
    let test = λ (t : ImportSlot). is_made_global m (binds_global input t) in
    ap (list_any test) (filter-append (is_kept_slot input) xs ys)
    ∙ list_any-append test (filter (is_kept_slot input) xs) (filter (is_kept_slot input) ys)

crossed : (a b c d : Bool) → ((a || b) || (c || d)) ≡ ((a || c) || (b || d))
crossed false true true d = refl
crossed _ _ _ d = refl

rows_bound : (input : Input) (m : WasmLinkerSymbol) (n : ℕ) (os : List Object)
    → list_any (row_leads_to m) (rows_from (by_all_rules input) n os)
    ≡ (functions_bound input m (slots_from Func n os) || globals_bound input m
    (slots_from Global n os))
rows_bound input m n [] = refl
rows_bound input m n (o ∷ os) =
    let fs : List ImportSlot = object_slots n Func o in
    let gs : List ImportSlot = object_slots n Global o in
    let functions : List ImportSlot = slots_from Func (n + 1) os in
    let globals : List ImportSlot = slots_from Global (n + 1) os in
    rw (
      list_any-append (leads_to m) (map (function_resolution input) fs) (map (global_resolution input) gs),
      functions_of input m fs,
      globals_of input m gs,
      rows_bound input m (n + 1) os,
    )
    (crossed (functions_bound input m fs) (globals_bound input m gs)
    (functions_bound input m functions) (globals_bound input m globals)
    ∙ rw (functions_more input m fs functions, globals_more input m gs globals) refl)

-- a slot is resolved to what a kept slot is bound to
pub bound_is : (input : Input) (m : WasmLinkerSymbol) (rows : List ObjectImportResolutions)
    → rows ≡ resolutions input (by_all_rules input)
    → list_any (row_leads_to m) rows ≡ is_bound input m
bound_is input m rows are =
    ap (list_any (row_leads_to m)) are ∙ rows_bound input m 0 input.link.objects
