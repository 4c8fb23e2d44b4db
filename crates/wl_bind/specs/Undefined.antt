-- Names that nothing defines.
use Rattle.std.specs.Prelude.{◌≡◌, ◌≢◌, ℕ, ◌+◌, ◌==◌, ◌&&◌, Bool, true, false, not, List, [], ◌∷◌, ◌++◌, if◌then◌else◌, Option, Some, None, slice_get}
use Rattle.std.specs.List.{filter_map}
use Rattle.std.specs.Option.{option_map_or, option_and_then}
use Rattle.std.specs.Str.{bytes_eq}
use Rattle.indexmap.specs.IndexSet.{insert_all}
use Rattle.wl_linking.specs.Object.{Object}
use Rattle.wl_custom.specs.RelocationTypes.{names_a_type}
use Rattle.wl_custom.specs.Symbols.{Symbol as LinkedSymbol, is_data, is_undefined, is_weak, is_explicit_name}
use Rattle.wl_linking.specs.declared.error.LinkError.{LinkError}
use Rattle.wl_linking.specs.declared.error.LinkError.TheVariants.{UndefinedSymbols}
use Rattle.wl_linking.specs.declared.error.UndefinedSymbol.{UndefinedSymbol}
use Rattle.wl_custom.specs.declared.symbols.WasmSymbolKind.{WasmSymbolKind}
use Rattle.wl_custom.specs.declared.symbols.WasmSymbolKind.TheVariants.{Func, Data, Global, Section, Event, Table}
use Rattle.wl_symbols.specs.Entries.{symbol_in}
use Rattle.wl_symbols.specs.declared.entry.Definition.{Definition}
use Rattle.wl_symbols.specs.declared.entry.Definition.TheVariants.{Symbol, Made}
use Rattle.wl_symbols.specs.ImportSlots.{ImportSlot, import_slots}
use Rattle.wl_symbols.specs.Input.{Input}
use Rattle.wl_symbols.specs.KeptSlots.{is_kept_slot}
use Rattle.wl_bind.specs.FunctionBinding.{binds_function}
use Rattle.wl_bind.specs.GlobalBinding.{binds_global}
use Rattle.wl_symbols.specs.Relocations.{relocations}
use Rattle.wl_bind.specs.Scan.{symbol_of, definition_of}
use Rattle.wl_bind.specs.declared.binding.FunctionTarget.{FunctionTarget}
use Rattle.wl_bind.specs.declared.binding.FunctionTarget.TheVariants as function
use Rattle.wl_bind.specs.declared.binding.GlobalTarget.{GlobalTarget}
use Rattle.wl_bind.specs.declared.binding.GlobalTarget.TheVariants as global
use Rattle.wl_symbols.specs.declared.relocated.Relocated.{Relocated}

-- the symbol has to be defined: it is undefined, isn't weak, and has no name of its own
abbrev pub wants_definition : LinkedSymbol → Bool
wants_definition s = is_undefined s && not (is_weak s) && not (is_explicit_name s)

-- the same object and the same name
abbrev pub same_undefined : UndefinedSymbol → UndefinedSymbol → Bool
same_undefined a b = (a.object == b.object) && bytes_eq a.name b.name

-- the symbol of that object, by its name
abbrev pub undefined_in : ℕ → LinkedSymbol → UndefinedSymbol
undefined_in object s = record { object = object; name = s.name }

-- ---- data

-- what a symbol stands for is a symbol that its object doesn't define
abbrev pub is_undefined_definition : Input → Definition → Bool
is_undefined_definition input (Symbol object number) =
    option_map_or is_undefined (symbol_in input.link.objects object number) false
is_undefined_definition input (Made m) = false

-- a data symbol that has to be defined, and stands for an undefined one; a relocation against a
-- type names no symbol
abbrev pub undefined_data_of : Input → Relocated → Option UndefinedSymbol
undefined_data_of input r =
    if names_a_type r.relocation.ty then None else
    option_and_then
    (λ (s : LinkedSymbol).
    if is_data s.kind && wants_definition s && is_undefined_definition input (definition_of input r)
    then Some (undefined_in r.object s) else None)
    (symbol_of input r)

-- those that kept relocations name, each once, in order of first occurrence
abbrev pub undefined_data : Input → List UndefinedSymbol
undefined_data input =
    insert_all same_undefined [] (filter_map (undefined_data_of input) (relocations input))

-- there are some, and they aren't allowed
pub record IsUndefinedData (input : Input) (e : LinkError) : Type 0 where
  pub disallowed : input.link.args.allow_undefined ≡ false
  pub some : undefined_data input ≢ []
  pub told : e ≡ UndefinedSymbols (undefined_data input)

-- ---- functions and globals

-- the function slot is left to the host
abbrev pub is_host_function : FunctionTarget → Bool
is_host_function (function.Host object slot) = true
is_host_function (function.Defined object number) = false
is_host_function (function.Made m) = false
is_host_function (function.Stub object slot) = false

-- the global slot is left to the host
abbrev pub is_host_global : GlobalTarget → Bool
is_host_global (global.Host object slot) = true
is_host_global (global.Defined object number) = false
is_host_global (global.Made m) = false
is_host_global (global.GotMem place) = false
is_host_global (global.GotFunc place) = false

-- the slot of that kind is kept, and left to the host
abbrev pub is_host_slot : Input → WasmSymbolKind → ImportSlot → Bool
is_host_slot input Func t = is_kept_slot input t && is_host_function (binds_function input t)
is_host_slot input Global t = is_kept_slot input t && is_host_global (binds_global input t)
is_host_slot input Data t = false
is_host_slot input Section t = false
is_host_slot input Event t = false
is_host_slot input Table t = false

-- a function or global symbol that has to be defined, and whose slot is left to the host
abbrev pub undefined_import_of : Input → ℕ → LinkedSymbol → Option UndefinedSymbol
undefined_import_of input object s =
    if wants_definition s
    && option_map_or (is_host_slot input s.kind)
    (slice_get (import_slots input.link.objects object s.kind) s.index) false
    then Some (undefined_in object s) else None

-- those of these objects, the first of which has that number
abbrev pub undefined_from : Input → ℕ → List Object → List UndefinedSymbol
undefined_from input object [] = []
undefined_from input object (o ∷ objects) =
    filter_map (undefined_import_of input object) o.symbols
    ++ undefined_from input (object + 1) objects

-- those of all objects, each once, in order of first occurrence
abbrev pub undefined_imports : Input → List UndefinedSymbol
undefined_imports input = insert_all same_undefined [] (undefined_from input 0 input.link.objects)

-- there are some, and they aren't allowed
pub record IsUndefinedImport (input : Input) (e : LinkError) : Type 0 where
  pub disallowed : input.link.args.allow_undefined ≡ false
  pub some : undefined_imports input ≢ []
  pub told : e ≡ UndefinedSymbols (undefined_imports input)
