-- The indices of the functions, or of the globals, of an object.
use Rattle.std.proofs.Common.{◌≡◌, ◌≤◌, ℕ, ◌++◌, List, length, map, arith, Some, slice_get}
use Rattle.std.specs.List.{AllZip, range_with_len}
use Rattle.wl_bytes.specs.declared.reader.TheConstants.{MAX_LEN}
use Rattle.wl_linking.specs.Spaces.{count_imports}
use Rattle.wl_module.specs.declared.imports.ExternalKind.{ExternalKind}
use Rattle.wl_module.specs.declared.imports.ExternalKind.TheVariants as external
use Rattle.wl_linking.specs.Object.{Object}
use Rattle.wl_custom.specs.declared.symbols.WasmSymbolKind.TheVariants.{Func, Global}
use Rattle.wl_symbols.specs.Live.{IsLiveOf}
use Rattle.wl_symbols.specs.ImportSlots.{object_slots, import_slots}
use Rattle.wl_symbols.specs.Input.{Input}
use Rattle.wl_bind.specs.steps.Numbering.{IsNumbering}
use Rattle.wl_bind.specs.steps.Numbered.{row_part, firsts_of, AreObjectIndices, own_indices_of, resolution_of, HaveSlotIndices, IsSlotIndex}
use Rattle.wl_bind.specs.steps.OwnIndices.{own_kind, own_count}
use Rattle.wl_bind.specs.FunctionBinding.{binds_function}
use Rattle.wl_bind.specs.FunctionSpace.{FunctionOf, function_space, own_function_entry}
use Rattle.wl_bind.specs.GlobalBinding.{binds_global}
use Rattle.wl_bind.specs.GlobalSpace.{GlobalOf, global_space, own_global_entry}
use Rattle.wl_bind.specs.Resolutions.{resolutions, by_all_rules}
use Rattle.wl_bind.specs.declared.numbering.Numbering.{Numbering}
use Rattle.wl_bind.specs.declared.own_indices.Own.{Own}
use Rattle.wl_bind.specs.declared.own_indices.Own.TheVariants.{Functions, Globals}
use Rattle.wl_bind.specs.declared.resolution.ImportResolution.{ImportResolution}
use Rattle.wl_bind.specs.declared.resolution.ObjectImportResolutions.{ObjectImportResolutions}
use Rattle.wl_bind.proofs.GlobalIndexLaws.{global_leads}
use Rattle.wl_bind.proofs.NumberingLaws.{row_there, own_functions, own_globals}
use Rattle.wl_bind.proofs.SlotIndexLaws.{function_leads, all_leads}
use Rattle.wl_bind.specs.steps.Laws.{LinkLaws}

-- what the slots of the object are resolved to
pub row_is : (input : Input) (rows : List ObjectImportResolutions) (own : Own) (object : ℕ) (o : Object) (row : List ImportResolution)
    → rows ≡ resolutions input (by_all_rules input) → slice_get input.link.objects object ≡ Some o
    → ((r : ObjectImportResolutions) → slice_get rows object ≡ Some r → row ≡ row_part own r)
    → row ≡ map (resolution_of input (own_kind own)) (object_slots object (own_kind own) o)
row_is input rows Functions object o row are here told = told _ (row_there input rows object o are here)
row_is input rows Globals object o row are here told = told _ (row_there input rows object o are here)

-- they are few
at_most : (a b m : ℕ) → a ≡ b → b ≤ m → a ≤ m
at_most a b m is few = omega (arith, is, few)

pub few_slots : (own : Own) (object : ℕ) (o : Object)
    → length (object_slots object Func o) ≡ count_imports external.Func o.imports
    → length (object_slots object Global o) ≡ count_imports external.Global o.imports
    → ((kind : ExternalKind) → count_imports kind o.imports ≤ MAX_LEN)
    → length (object_slots object (own_kind own) o) ≤ MAX_LEN
few_slots Functions object o functions globals few = at_most _ _ MAX_LEN functions (few external.Func)
few_slots Globals object o functions globals few = at_most _ _ MAX_LEN globals (few external.Global)

-- each that is kept has an index
pub own_have : LinkLaws → (n : Numbering) → IsNumbering n.input.now n
    → IsLiveOf n.input.now.link n.input.now.live → (own : Own) (object : ℕ)
    → HaveSlotIndices n (own_kind own) (import_slots n.input.now.link.objects object (own_kind own))
own_have laws n is live Functions object = λ k t here kept. (function_leads laws n is live object k t here kept).has
own_have laws n is live Globals object = λ k t here kept. (global_leads laws n is live object k t here kept).has

-- the indices of slots, and then of what the object defines
pub own_all : LinkLaws → (n : Numbering) → IsNumbering n.input.now n
    → IsLiveOf n.input.now.link n.input.now.live → (own : Own) (object : ℕ) (o : Object)
    → slice_get n.input.now.link.objects object ≡ Some o → (indices : List ℕ)
    → AllZip (IsSlotIndex n (own_kind own)) (import_slots n.input.now.link.objects object (own_kind own)) indices
    → AreObjectIndices n.input.now own object o
    (indices ++ own_indices_of n.input.now own (firsts_of n own) object (own_count own o))
own_all laws n is live Functions object o here indices slots =
    let input : Input = n.input.now in
    all_leads n Func object o (function_space input) (λ t. FunctionOf (binds_function input t))
    (map (own_function_entry input object) (range_with_len 0 (length o.functions)))
    (own_indices_of input Functions n.function_firsts.items object (length o.functions)) indices here
    (function_leads laws n is live object) slots (own_functions input n is live object o)
own_all laws n is live Globals object o here indices slots =
    let input : Input = n.input.now in
    all_leads n Global object o (global_space input) (λ t. GlobalOf (binds_global input t))
    (map (own_global_entry input object) (range_with_len 0 (length o.globals)))
    (own_indices_of input Globals n.global_firsts.items object (length o.globals)) indices here
    (global_leads laws n is live object) slots (own_globals input n is live object o)
