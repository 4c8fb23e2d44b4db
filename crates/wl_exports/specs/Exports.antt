-- What is exported, in order, before it is known where things stand.
use Rattle.std.specs.Prelude.{ℕ, ◌+◌, ◌&&◌, Bool, not, List, [], ◌∷◌, ◌++◌, map, if◌then◌else◌, Option, Some, None, slice_get}
use Rattle.std.specs.List.{filter_map, list_any}
use Rattle.std.specs.Option.{option_map, option_and_then, option_to_list}
use Rattle.std.specs.Str.{bytes_eq}
use Rattle.wl_features.specs.declared.taken.TheConstants.{TARGET_FEATURE_MUTABLE_GLOBALS}
use Rattle.wl_module.specs.Exports.{Exported}
use Rattle.wl_module.specs.declared.imports.ExternalKind.{ExternalKind}
use Rattle.wl_module.specs.declared.imports.ExternalKind.TheVariants as external
use Rattle.wl_linking.specs.Object.{Object}
use Rattle.wl_custom.specs.Symbols.{Symbol as LinkedSymbol, is_data, has_name, is_undefined}
use Rattle.wl_custom.specs.declared.symbols.WasmSymbolKind.{WasmSymbolKind}
use Rattle.wl_custom.specs.declared.symbols.WasmSymbolKind.TheVariants as symbol
use Rattle.wl_words.specs.Args.{export_name}
use Rattle.wl_symbols.specs.LinkerNames.{kind_of, name_of, symbol_named}
use Rattle.wl_symbols.specs.Names.{named}
use Rattle.wl_symbols.specs.declared.entry.Definition.{Definition}
use Rattle.wl_symbols.specs.declared.entry.Definition.TheVariants.{Symbol, Made as MadeName}
use Rattle.wl_symbols.specs.declared.linker_symbol.WasmLinkerSymbol.{WasmLinkerSymbol}
use Rattle.wl_symbols.specs.declared.linker_symbol.WasmLinkerSymbol.TheVariants as made
use Rattle.wl_features.specs.Taken.{taken_names}
use Rattle.wl_symbols.specs.Roots.{is_candidate}
use Rattle.wl_symbols.specs.SlotTargets.{own_number}
use Rattle.wl_bind.specs.ExportedData.{is_made_name}
use Rattle.wl_bind.specs.FunctionSpace.{FunctionEntry, FunctionOf, local_functions}
use Rattle.wl_bind.specs.GlobalSpace.{GlobalEntry, GlobalOf, AddressOf, DataOf, local_globals}
use Rattle.wl_symbols.specs.Input.{Input}
use Rattle.wl_bind.specs.Made.{has_shared_tls, is_made}
use Rattle.wl_bind.specs.Parts.{by_object}
use Rattle.wl_bind.specs.References.{there}
use Rattle.wl_bind.specs.declared.binding.FunctionTarget.TheVariants as function
use Rattle.wl_bind.specs.declared.binding.GlobalTarget.TheVariants as global

-- ---- exports

-- what an export leads to
pub data Entity : Type 0 where
  OfFunction : FunctionEntry → Entity
  OfGlobal : GlobalEntry → Entity
  OfTable : Entity
  OfMemory : Entity

-- a name, and what it leads to
pub record ExportEntry : Type 0 where
  pub name : List ℕ
  pub entity : Entity

-- that thing under that name
abbrev pub export_of : List ℕ → Entity → ExportEntry
export_of name entity = record { name = name; entity = entity }

-- ---- what objects export

-- the function, global or table of that kind and index in an object; no memory
abbrev pub own_of_kind : Input → ℕ → Object → ExternalKind → ℕ → Option Entity
own_of_kind input object o external.Func index =
    option_map OfFunction (there (local_functions input object o) index)
own_of_kind input object o external.Global index =
    option_map OfGlobal (there (local_globals input object o) index)
own_of_kind input object o external.Table index = Some OfTable
own_of_kind input object o external.Memory index = None

-- the function, global or table that an object exports, by its index there; no memory
abbrev pub own_entity : Input → ℕ → Object → Exported → Option Entity
own_entity input object o e = own_of_kind input object o e.kind e.index

-- those of an object
abbrev pub object_exports : Input → ℕ → Object → List ExportEntry
object_exports input object o =
    filter_map (λ (e : Exported). option_map (export_of e.name) (own_entity input object o e))
    o.exports

-- those of all objects
abbrev pub inherited_exports : Input → List ExportEntry
inherited_exports input = by_object (object_exports input) 0 input.link.objects

-- ---- the memory

-- the memory under its name, if it is exported
abbrev pub memory_export : Input → List ExportEntry
memory_export input =
    option_to_list (option_map (λ name. export_of name OfMemory)
    (export_name input.link.args.export_memory input.link.args.import_memory))

-- ---- by names

-- what a symbol of that kind and index defines, of that number in an object
abbrev pub defined_of_kind : ℕ → ℕ → Object → WasmSymbolKind → ℕ → Option Entity
defined_of_kind object number o symbol.Func index =
    option_map (λ n. OfFunction (FunctionOf (function.Defined object n)))
    (own_number symbol.Func o index)
defined_of_kind object number o symbol.Global index =
    option_map (λ n. OfGlobal (GlobalOf (global.Defined object n)))
    (own_number symbol.Global o index)
defined_of_kind object number o symbol.Data index =
    Some (OfGlobal (DataOf (record { object = object; symbol = number })))
defined_of_kind object number o symbol.Section index = None
defined_of_kind object number o symbol.Event index = None
defined_of_kind object number o symbol.Table index = None

-- what a symbol of an object defines
abbrev pub defined_entity : Input → ℕ → ℕ → Object → LinkedSymbol → Option Entity
defined_entity input object number o s =
    if is_undefined s then None else defined_of_kind object number o s.kind s.index

-- what this definition is of, where an object has it
abbrev pub object_entity : Input → Definition → Option Entity
object_entity input (MadeName m) = None
object_entity input (Symbol object number) =
    option_and_then
    (λ o. option_and_then (defined_entity input object number o) (slice_get o.symbols number))
    (slice_get input.link.objects object)

-- what an object defines under a name that others know
abbrev pub named_entity : Input → List ℕ → Option Entity
named_entity input name = option_and_then (object_entity input) (named input.link name)

-- what the linker makes of that kind: a function, a global, or the address of data as a global
abbrev pub made_of_kind : WasmLinkerSymbol → WasmSymbolKind → Entity
made_of_kind m symbol.Func = OfFunction (FunctionOf (function.Made m))
made_of_kind m symbol.Global = OfGlobal (GlobalOf (global.Made m))
made_of_kind m _ = OfGlobal (AddressOf m)

-- what the linker makes
abbrev pub made_entity : WasmLinkerSymbol → Entity
made_entity m = made_of_kind m (kind_of m)

-- what the linker makes under a name, where the output has it
abbrev pub made_under : Input → List ℕ → Option Entity
made_under input name =
    option_and_then (λ m. if is_made input m then Some (made_entity m) else None)
    (symbol_named name)

-- these names, each that something stands for
abbrev pub by_names : (List ℕ → Option Entity) → List (List ℕ) → List ExportEntry
by_names entity names = filter_map (λ name. option_map (export_of name) (entity name)) names

-- the thing, if it is a function
abbrev pub only_function : Entity → Option Entity
only_function (OfFunction f) = Some (OfFunction f)
only_function (OfGlobal g) = None
only_function OfTable = None
only_function OfMemory = None

-- the function that an object defines under a name
abbrev pub named_function : Input → List ℕ → Option Entity
named_function input name = option_and_then only_function (named_entity input name)

-- the entry's function
abbrev pub entry_export : Input → List ExportEntry
entry_export input = by_names (named_function input) (option_to_list input.link.args.entry)

-- the size, the alignment and the initialiser of the block of each thread
abbrev pub thread_exports : Input → List ExportEntry
thread_exports input =
    if has_shared_tls input
    then map (λ m. export_of (name_of m) (made_entity m))
    (made.TlsSize ∷ made.TlsAlign ∷ made.InitTls ∷ [])
    else []

-- the names that are to be exported and that the linker makes
abbrev pub made_exports : Input → List ExportEntry
made_exports input = by_names (made_under input) input.link.args.export_symbols

-- what an object defines under a name, unless the linker makes it
abbrev pub unless_made : Input → List ℕ → Option Entity
unless_made input name = if is_made_name input name then None else named_entity input name

-- the other names that are to be exported
abbrev pub forced_exports : Input → List ExportEntry
forced_exports input = by_names (unless_made input) input.link.args.export_symbols

-- ---- with `--export-dynamic`

-- the stack pointer, where globals that may change are used
abbrev pub stack_pointer_export : Input → List ExportEntry
stack_pointer_export input =
    if list_any (bytes_eq TARGET_FEATURE_MUTABLE_GLOBALS.now) (taken_names input.link)
    then export_of (name_of made.StackPointer) (made_entity made.StackPointer) ∷ [] else []

-- a symbol that has a name, defines something, and is exported by the option
abbrev pub candidate : Input → ℕ → ℕ → Object → LinkedSymbol → Option ExportEntry
candidate input object number o s =
    if has_name s && is_candidate input.link object number s
    then option_map (export_of s.name) (defined_entity input object number o s) else None

-- what each of these symbols gives, the first of which has that number
abbrev pub by_symbol : (ℕ → LinkedSymbol → Option ExportEntry) → ℕ → List LinkedSymbol
    → List ExportEntry
by_symbol f number [] = []
by_symbol f number (s ∷ symbols) = option_to_list (f number s) ++ by_symbol f (number + 1) symbols

-- those of an object whose kind passes the test
abbrev pub candidates_in : Input → (WasmSymbolKind → Bool) → ℕ → Object → List ExportEntry
candidates_in input test object o =
    by_symbol (λ number s. if test s.kind then candidate input object number o s else None) 0
    o.symbols

-- those of all objects
abbrev pub candidates : Input → (WasmSymbolKind → Bool) → List ExportEntry
candidates input test = by_object (candidates_in input test) 0 input.link.objects

-- a function or a global
abbrev pub is_code : WasmSymbolKind → Bool
is_code kind = not (is_data kind)

-- functions and globals, and then data
abbrev pub dynamic_exports : Input → List ExportEntry
dynamic_exports input =
    if input.link.args.export_dynamic
    then stack_pointer_export input ++ candidates input is_code ++ candidates input is_data else []

-- ---- all of them

-- two exports have one name
abbrev pub same_name : ExportEntry → ExportEntry → Bool
same_name a b = bytes_eq a.name b.name

-- each of these whose name none before it has
abbrev pub unless_taken : List ExportEntry → List ExportEntry → List ExportEntry
unless_taken before [] = []
unless_taken before (e ∷ exports) =
    (if list_any (same_name e) before then [] else e ∷ [])
    ++ unless_taken (before ++ e ∷ []) exports

-- what objects export, and the memory
abbrev pub first_exports : Input → List ExportEntry
first_exports input = inherited_exports input ++ memory_export input

-- what is asked for by name and by options, in order
abbrev pub later_exports : Input → List ExportEntry
later_exports input =
    entry_export input ++ thread_exports input ++ made_exports input ++ forced_exports input
    ++ dynamic_exports input

-- the exports: of those after the memory the first of a name counts
abbrev pub exports : Input → List ExportEntry
exports input = first_exports input ++ unless_taken (first_exports input) (later_exports input)
