-- The names that the linker makes.
use Rattle.std.specs.Prelude.{◌≡◌, ℕ, ◌&&◌, ◌||◌, Bool, true, false, if◌then◌else◌, List, [], ◌∷◌, codes, Option, Some, None, find}
use Rattle.std.specs.Option.{option_and_then}
use Rattle.std.specs.Str.{bytes_eq}
use Rattle.wl_custom.specs.declared.symbols.WasmSymbolKind.{WasmSymbolKind}
use Rattle.wl_custom.specs.Symbols.{is_function, is_data, is_global}
use Rattle.wl_symbols.specs.LinkerRows.{LinkerRow, kind_of_sort}
use Rattle.wl_words.specs.declared.args.WasmArgs.{WasmArgs}
use Rattle.wl_symbols.specs.declared.linker_symbol.MadeUnder.{MadeUnder}
use Rattle.wl_symbols.specs.declared.linker_symbol.MadeUnder.TheVariants.{AnyOptions, SharedMemory}
use Rattle.wl_symbols.specs.declared.made_sort.MadeSort.{MadeSort}
use Rattle.wl_symbols.specs.declared.made_sort.MadeSort.TheVariants.{Function, Global, Data}
use Rattle.wl_symbols.specs.declared.made_sort.NamedFunction.{NamedFunction}
use Rattle.wl_symbols.specs.declared.made_sort.NamedFunction.TheVariants as function
use Rattle.wl_symbols.specs.declared.made_sort.NamedGlobal.{NamedGlobal}
use Rattle.wl_symbols.specs.declared.made_sort.NamedGlobal.TheVariants as global
use Rattle.wl_symbols.specs.declared.linker_symbol.WasmLinkerSymbol.{WasmLinkerSymbol}
use Rattle.wl_symbols.specs.declared.linker_symbol.WasmLinkerSymbol.TheVariants.{DataEnd, GlobalBase, HeapBase, HeapEnd, WasmFirstPageEnd, DsoHandle, MemoryBase, TableBase, StackPointer, TlsBase, TlsSize, TlsAlign, CallCtors, InitTls}

-- ---- the table

-- a row of the table
abbrev linker_row : List ℕ → MadeSort → MadeUnder → LinkerRow
linker_row name sort under = record { name = name; sort = sort; under = under }

-- the table of names: what each stands for, and under which options it exists
abbrev pub row_of : WasmLinkerSymbol → LinkerRow
row_of DataEnd = linker_row (codes "__data_end") Data AnyOptions
row_of GlobalBase = linker_row (codes "__global_base") Data AnyOptions
row_of HeapBase = linker_row (codes "__heap_base") Data AnyOptions
row_of HeapEnd = linker_row (codes "__heap_end") Data AnyOptions
row_of WasmFirstPageEnd = linker_row (codes "__wasm_first_page_end") Data AnyOptions
row_of DsoHandle = linker_row (codes "__dso_handle") Data AnyOptions
row_of MemoryBase = linker_row (codes "__memory_base") (Global global.MemoryBase) AnyOptions
row_of TableBase = linker_row (codes "__table_base") (Global global.TableBase) AnyOptions
row_of StackPointer = linker_row (codes "__stack_pointer") (Global global.StackPointer) AnyOptions
row_of TlsBase = linker_row (codes "__tls_base") (Global global.TlsBase) AnyOptions
row_of TlsSize = linker_row (codes "__tls_size") (Global global.TlsSize) SharedMemory
row_of TlsAlign = linker_row (codes "__tls_align") (Global global.TlsAlign) SharedMemory
row_of CallCtors = linker_row (codes "__wasm_call_ctors") (Function function.CallCtors) AnyOptions
row_of InitTls = linker_row (codes "__wasm_init_tls") (Function function.InitTls) SharedMemory

-- each one's name
abbrev pub name_of : WasmLinkerSymbol → List ℕ
name_of made = (row_of made).name

-- what each stands for
abbrev pub sort_of : WasmLinkerSymbol → MadeSort
sort_of made = (row_of made).sort

-- of which kind symbols of its name are
abbrev pub kind_of : WasmLinkerSymbol → WasmSymbolKind
kind_of made = kind_of_sort (sort_of made)

-- the name of a function
abbrev pub named_function : NamedFunction → WasmLinkerSymbol
named_function function.CallCtors = CallCtors
named_function function.InitTls = InitTls

-- that of a global
abbrev pub named_global : NamedGlobal → WasmLinkerSymbol
named_global global.MemoryBase = MemoryBase
named_global global.TableBase = TableBase
named_global global.StackPointer = StackPointer
named_global global.TlsBase = TlsBase
named_global global.TlsSize = TlsSize
named_global global.TlsAlign = TlsAlign

-- the name is that of a thing of this sort
abbrev pub IsOfSort : WasmLinkerSymbol → MadeSort → Type 0
IsOfSort made (Function f) = made ≡ named_function f
IsOfSort made (Global g) = made ≡ named_global g
IsOfSort made Data = sort_of made ≡ Data

-- all of them
abbrev pub all_made : List WasmLinkerSymbol
all_made =
    DataEnd ∷ GlobalBase ∷ HeapBase ∷ HeapEnd ∷ WasmFirstPageEnd ∷ DsoHandle ∷ MemoryBase
    ∷ TableBase
    ∷ StackPointer ∷ TlsBase ∷ TlsSize ∷ TlsAlign ∷ CallCtors ∷ InitTls ∷ []

-- ---- by name

-- the one of that name
abbrev pub symbol_named : List ℕ → Option WasmLinkerSymbol
symbol_named name = find (λ made. bytes_eq (name_of made) name) all_made

-- the options are such ones
abbrev pub is_asked : WasmArgs → MadeUnder → Bool
is_asked args AnyOptions = true
is_asked args SharedMemory = args.shared_memory

-- the name exists under these options
abbrev pub exists_under : WasmArgs → WasmLinkerSymbol → Bool
exists_under args made = is_asked args (row_of made).under

-- the one itself, where its name exists
abbrev pub if_exists : WasmArgs → WasmLinkerSymbol → Option WasmLinkerSymbol
if_exists args made = if exists_under args made then Some made else None

-- the one whose name this is, and exists
abbrev pub made_of : WasmArgs → List ℕ → Option WasmLinkerSymbol
made_of args name = option_and_then (if_exists args) (symbol_named name)

-- ---- what it stands for

-- it is made where nothing but an export asks for it; what belongs to memory of each thread isn't
abbrev pub materializes_on_export : WasmLinkerSymbol → Bool
materializes_on_export TlsBase = false
materializes_on_export TlsSize = false
materializes_on_export TlsAlign = false
materializes_on_export InitTls = false
materializes_on_export _ = true

-- data, but the heap's end only where there is a memory
abbrev pub is_exported_as_data : Bool → WasmLinkerSymbol → Bool
is_exported_as_data has_memory HeapEnd = has_memory
is_exported_as_data has_memory made = is_data (kind_of made)

-- functions and globals are imported, and only as what they are
abbrev pub is_imported_as : WasmSymbolKind → WasmSymbolKind → Bool
is_imported_as kind other =
    (is_function kind && is_function other) || (is_global kind && is_global other)

-- an import of that kind can be bound to it
abbrev pub matches_kind : WasmSymbolKind → WasmLinkerSymbol → Bool
matches_kind kind made = is_imported_as kind (kind_of made)
