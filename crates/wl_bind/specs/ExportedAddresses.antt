-- Data names of the linker's that are exported, as globals with their addresses.
use Rattle.std.specs.Prelude.{ℕ, true, List, [], Option, Some, None, if◌then◌else◌}
use Rattle.std.specs.List.{filter_map}
use Rattle.std.specs.Option.{option_and_then}
use Rattle.indexmap.specs.IndexSet.{insert_all}
use Rattle.wl_symbols.specs.LinkerNames.{symbol_named, is_exported_as_data}
use Rattle.wl_words.specs.declared.args.WasmArgs.{WasmArgs}
use Rattle.wl_symbols.specs.declared.linker_symbol.WasmLinkerSymbol.{WasmLinkerSymbol}
use Rattle.wl_bind.specs.Sameness.{same_made}

-- the thing itself, where its name is exported as data
abbrev pub if_data : WasmLinkerSymbol → Option WasmLinkerSymbol
if_data m = if is_exported_as_data true m then Some m else None

-- the data that the linker makes under a name
abbrev pub data_named : List ℕ → Option WasmLinkerSymbol
data_named name = option_and_then if_data (symbol_named name)

-- those whose names are to be exported, each once
abbrev pub exported_addresses : WasmArgs → List WasmLinkerSymbol
exported_addresses args = insert_all same_made [] (filter_map data_named args.export_symbols)
