-- The types of functions, as they are declared and as they are.
use Rattle.std.specs.Prelude.{ℕ, List, [], ◌∷◌, Option, Some, None, if◌then◌else◌, slice_get}
use Rattle.std.specs.Option.{option_and_then}
use Rattle.wl_module.specs.Types.{FunctionType}
use Rattle.wl_module.specs.declared.types.ValType.{ValType}
use Rattle.wl_module.specs.declared.types.ValType.TheVariants.{I32}
use Rattle.wl_module.specs.declared.imports.ImportEntity.{ImportEntity}
use Rattle.wl_module.specs.declared.imports.ImportEntity.TheVariants as entity
use Rattle.wl_linking.specs.Object.{Object}
use Rattle.wl_custom.specs.Symbols.{Symbol, is_undefined}
use Rattle.wl_custom.specs.declared.symbols.WasmSymbolKind.TheVariants.{Func}
use Rattle.wl_symbols.specs.LinkerNames.{sort_of}
use Rattle.wl_symbols.specs.declared.linker_symbol.WasmLinkerSymbol.{WasmLinkerSymbol}
use Rattle.wl_symbols.specs.declared.made_sort.MadeSort.{MadeSort}
use Rattle.wl_symbols.specs.declared.made_sort.MadeSort.TheVariants.{Function, Global, Data}
use Rattle.wl_symbols.specs.declared.made_sort.NamedFunction.{NamedFunction}
use Rattle.wl_symbols.specs.declared.made_sort.NamedFunction.TheVariants.{CallCtors, InitTls}
use Rattle.wl_symbols.specs.ImportSlots.{ImportSlot, import_slots}
use Rattle.wl_symbols.specs.SlotTargets.{own_number}
use Rattle.std.specs.List.{filter_map}
use Rattle.wl_symbols.specs.Input.{Input}
use Rattle.wl_bind.specs.FunctionBinding.{link_stubs}
use Rattle.wl_bind.specs.declared.binding.FunctionTarget.{FunctionTarget}
use Rattle.wl_bind.specs.declared.binding.FunctionTarget.TheVariants.{Defined, Made, Host, Stub}

-- the type of that number of the object of that number
abbrev pub type_in : List Object → ℕ → ℕ → Option FunctionType
type_in objects object number =
    option_and_then (λ o. slice_get o.types number) (slice_get objects object)

-- the type of the function of that number that the object of that number defines
abbrev pub type_of_defined : List Object → ℕ → ℕ → Option FunctionType
type_of_defined objects object number =
    option_and_then
    (λ o. option_and_then (slice_get o.types) (slice_get o.functions number))
    (slice_get objects object)

-- the number of the type under which a function is imported
abbrev pub type_number : ImportEntity → Option ℕ
type_number (entity.Func number) = Some number
type_number (entity.Table t) = None
type_number (entity.Memory m) = None
type_number (entity.Global g) = None

-- the type under which a function slot is imported
abbrev pub slot_type : List Object → ImportSlot → Option FunctionType
slot_type objects t = option_and_then (type_in objects t.object) (type_number t.item.entity)

-- what a function that the linker makes takes: one that calls the constructors takes nothing, one
-- that fills the data of a thread takes its address
abbrev pub made_params : NamedFunction → List ValType
made_params CallCtors = []
made_params InitTls = I32 ∷ []

-- the type of such a function, which has no results
abbrev pub type_of_sort : MadeSort → Option FunctionType
type_of_sort (Function f) = Some (record { params = made_params f; results = [] })
type_of_sort (Global g) = None
type_of_sort Data = None

-- the type of what the linker makes under a name, where that is a function
abbrev pub type_of_made : WasmLinkerSymbol → Option FunctionType
type_of_made m = type_of_sort (sort_of m)

-- the type of what is no import: a function that an object defines or that the linker makes
abbrev pub target_type : List Object → FunctionTarget → Option FunctionType
target_type objects (Defined object function) = type_of_defined objects object function
target_type objects (Made m) = type_of_made m
target_type objects (Host object slot) = None
target_type objects (Stub object slot) = None

-- the type under which the object of that number knows its function symbol: the import's where it
-- is undefined, else that of its own function
abbrev pub declared_type : List Object → ℕ → Symbol → Option FunctionType
declared_type objects object s =
    if is_undefined s
    then option_and_then (slot_type objects) (slice_get (import_slots objects object Func) s.index)
    else option_and_then
    (λ o. option_and_then (type_of_defined objects object) (own_number Func o s.index))
    (slice_get objects object)

-- the types of the stubs, in order: each has that of its first slot
abbrev pub stub_types : Input → List FunctionType
stub_types input = filter_map (slot_type input.link.objects) (link_stubs input)
