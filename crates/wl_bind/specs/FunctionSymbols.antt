-- The function that a function symbol leads to.
use Rattle.std.specs.Prelude.{ℕ, if◌then◌else◌, List, Option, Some, None, slice_get}
use Rattle.std.specs.Option.{option_or, option_map, option_and_then}
use Rattle.wl_linking.specs.Object.{Object}
use Rattle.wl_custom.specs.Symbols.{Symbol, is_undefined, is_weak, is_function}
use Rattle.wl_custom.specs.declared.symbols.WasmSymbolKind.TheVariants.{Func}
use Rattle.wl_symbols.specs.Names.{def}
use Rattle.wl_symbols.specs.ImportSlots.{ImportSlot, import_slots}
use Rattle.wl_symbols.specs.SlotTargets.{object_target, symbol_target}
use Rattle.wl_symbols.specs.Input.{Input}
use Rattle.wl_symbols.specs.KeptSlots.{is_kept_slot}
use Rattle.wl_bind.specs.FunctionBinding.{named_function, binds_function}
use Rattle.wl_bind.specs.SlotRows.{slot_rows}
use Rattle.wl_bind.specs.declared.binding.FunctionTarget.{FunctionTarget}

-- what a function slot is bound to, where it is kept
abbrev pub kept_binding : Input → ImportSlot → Option FunctionTarget
kept_binding input t = if is_kept_slot input t then Some (binds_function input t) else None

-- what the function slot of that number of the object of that number is bound to
abbrev pub binding_at : Input → ℕ → ℕ → Option FunctionTarget
binding_at input object number =
    option_and_then (kept_binding input)
    (slice_get (import_slots input.link.objects object Func) number)

-- the function of an object that the symbol stands for, where it stands for one
abbrev pub defined_function : Input → ℕ → ℕ → Option FunctionTarget
defined_function input object number =
    option_map named_function (object_target input.link Func (def input.link object number))

-- the function that the symbol itself defines
abbrev pub own_function : ℕ → Object → Symbol → Option FunctionTarget
own_function object o s = option_map named_function (symbol_target Func object o s)

-- an undefined function symbol leads to what its slot is bound to; one that is weak and defined to
-- what it stands for, where that is a function that an object defines; any other to itself
abbrev pub function_of : Input → ℕ → ℕ → Object → Symbol → Option FunctionTarget
function_of input object number o s =
    if is_undefined s then binding_at input object s.index
    else if is_weak s then option_or (defined_function input object number)
    (own_function object o s)
    else own_function object o s

-- the function that the symbol of those numbers leads to, where it is a function's
abbrev pub fun : Input → ℕ → ℕ → Option FunctionTarget
fun input object number =
    option_and_then
    (λ o. option_and_then
    (λ s. if is_function s.kind then function_of input object number o s else None)
    (slice_get o.symbols number))
    (slice_get input.link.objects object)

-- what the function slots of all objects are bound to
abbrev pub function_bindings : Input → List (List (Option FunctionTarget))
function_bindings input = slot_rows (kept_binding input) Func 0 input.link.objects
