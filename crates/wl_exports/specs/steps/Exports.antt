-- How exports come to be.
use Rattle.std.specs.Prelude.{◌≡◌, ℕ, ◌==◌, Bool, true, false, List, ◌++◌, if◌then◌else◌, Option, Some, None, Contains, slice_get, ⊤}
use Rattle.std.specs.List.{AllZip, list_any}
use Rattle.std.specs.Option.{option_map, option_and_then}
use Rattle.std.specs.Str.{bytes_eq}
use Rattle.wl_features.specs.declared.taken.TheConstants.{TARGET_FEATURE_MUTABLE_GLOBALS}
use Rattle.wl_module.specs.Exports.{Exported}
use Rattle.wl_module.specs.declared.imports.ExternalKind.{ExternalKind}
use Rattle.wl_module.specs.declared.imports.ExternalKind.TheVariants as external
use Rattle.wl_linking.specs.Object.{Object}
use Rattle.wl_custom.specs.Symbols.{Symbol as LinkedSymbol, is_data, is_undefined}
use Rattle.wl_custom.specs.declared.symbols.WasmSymbolKind.{WasmSymbolKind}
use Rattle.wl_custom.specs.declared.symbols.WasmSymbolKind.TheVariants as symbol
use Rattle.wl_index.specs.declared.index.TheConstants.{WASM_DEAD_INDEX}
use Rattle.wl_words.specs.Args.{export_name}
use Rattle.wl_symbols.specs.LinkerNames.{kind_of}
use Rattle.wl_symbols.specs.Link.{Link}
use Rattle.wl_symbols.specs.declared.linker_symbol.WasmLinkerSymbol.{WasmLinkerSymbol}
use Rattle.wl_features.specs.Taken.{taken_names}
use Rattle.wl_symbols.specs.Units.{unit_of}
use Rattle.wl_symbols.specs.declared.units.WasmGcUnit.{WasmGcUnit}
use Rattle.wl_symbols.specs.Input.{Input, keeps}
use Rattle.wl_exports.specs.steps.DataPlaces.{exported_data}
use Rattle.wl_exports.specs.Exports.{ExportEntry, OfMemory, export_of, is_code}
use Rattle.wl_exports.specs.Sources.{IsPlainExport}
use Rattle.wl_exports.specs.declared.dynamic.Wanted.{Wanted}
use Rattle.wl_exports.specs.declared.dynamic.Wanted.TheVariants.{Code, Data}

-- ---- lists that grow

-- an export of an entry, and none of none
abbrev pub IsPlainIf : Input → Option ExportEntry → Option Exported → Type 0
IsPlainIf input None None = ⊤
IsPlainIf input None (Some x) = ⊥
IsPlainIf input (Some e) None = ⊥
IsPlainIf input (Some e) (Some x) = IsPlainExport input e x

-- the list grows by exports of these entries
pub record AddsExports (input : Input) (entries : List ExportEntry) (old new : List Exported)
    : Type 0 where
  pub more : List Exported
  pub are : AllZip (IsPlainExport input) entries more
  pub grown : new ≡ old ++ more

-- ---- indices

-- the index, unless it stands for what the output doesn't have
abbrev pub unless_dead : ℕ → Option ℕ
unless_dead index = if index == WASM_DEAD_INDEX then None else Some index

-- the index that a list has at a place, unless it stands for that
abbrev pub index_at : List ℕ → ℕ → Option ℕ
index_at indices place = option_and_then unless_dead (slice_get indices place)

-- ---- single exports

-- the memory, if it is exported
abbrev pub memory_entry : Input → Option ExportEntry
memory_entry input =
    option_map (λ name. export_of name OfMemory)
    (export_name input.link.args.export_memory input.link.args.import_memory)

-- a function, or else a global
abbrev pub kind_of_symbol : WasmSymbolKind → ExternalKind
kind_of_symbol symbol.Func = external.Func
kind_of_symbol _ = external.Global

-- as what the linker's things are exported
abbrev pub kind_of_made : WasmLinkerSymbol → ExternalKind
kind_of_made m = kind_of_symbol (kind_of m)

-- globals that may change are used
abbrev pub uses_mutable_globals : Link → Bool
uses_mutable_globals link = list_any (bytes_eq TARGET_FEATURE_MUTABLE_GLOBALS.now) (taken_names link)

-- ---- symbols

-- what the symbol of those numbers defines is in the output
pub record IsShown (input : Input) (object number : ℕ) (o : Object) (s : LinkedSymbol)
    : Type 0 where
  pub here : slice_get input.link.objects object ≡ Some o
  pub at : slice_get o.symbols number ≡ Some s
  pub kept : is_undefined s ≡ false → (u : WasmGcUnit) → unit_of o s ≡ Some u
      → keeps input object u ≡ true
  pub data_shown : is_undefined s ≡ false → is_data s.kind ≡ true
      → Contains (exported_data input) (record { object = object; symbol = number })

-- symbols of that kind are wanted
abbrev pub takes : Wanted → WasmSymbolKind → Bool
takes Code = is_code
takes Data = is_data
