-- Data symbols that are exported, as globals with their addresses.
use Rattle.std.specs.Prelude.{ℕ, ◌+◌, ◌&&◌, Bool, false, not, List, [], ◌∷◌, ◌++◌, if◌then◌else◌, Option, Some, None}
use Rattle.std.specs.List.{filter, filter_map}
use Rattle.std.specs.Option.{option_map_or, option_and_then}
use Rattle.indexmap.specs.IndexSet.{insert_all}
use Rattle.wl_linking.specs.Object.{Object}
use Rattle.wl_custom.specs.Symbols.{Symbol as LinkedSymbol, is_data, is_defined_data, has_name}
use Rattle.wl_symbols.specs.Entries.{symbol_in}
use Rattle.wl_symbols.specs.LinkerNames.{symbol_named}
use Rattle.wl_symbols.specs.Names.{named}
use Rattle.wl_symbols.specs.declared.entry.Definition.{Definition}
use Rattle.wl_symbols.specs.declared.entry.Definition.TheVariants.{Symbol, Made}
use Rattle.wl_symbols.specs.Roots.{is_candidate}
use Rattle.wl_symbols.specs.Input.{Input}
use Rattle.wl_bind.specs.Made.{is_made}
use Rattle.wl_bind.specs.Parts.{by_object}
use Rattle.wl_bind.specs.contracts.exported.DataSymbolPartialEq.TheImpl as derived
use Rattle.wl_bind.specs.declared.exported.DataSymbol.{DataSymbol}

-- the two have the same numbers
abbrev pub same_data : DataSymbol → DataSymbol → Bool
same_data = derived.ghosts.eq

-- ---- with `--export-dynamic`

-- a named data symbol that `--export-dynamic` exports
abbrev pub is_dynamic_data : Input → ℕ → ℕ → LinkedSymbol → Bool
is_dynamic_data input object number s =
    is_data s.kind && has_name s && is_candidate input.link object number s

-- those of these symbols of an object, the first of which has that number
abbrev pub dynamic_from : Input → ℕ → ℕ → List LinkedSymbol → List DataSymbol
dynamic_from input object number [] = []
dynamic_from input object number (s ∷ symbols) =
    (if is_dynamic_data input object number s
    then record { object = object; symbol = number } ∷ [] else [])
    ++ dynamic_from input object (number + 1) symbols

-- those of an object
abbrev pub dynamic_in : Input → ℕ → Object → List DataSymbol
dynamic_in input object o = dynamic_from input object 0 o.symbols

-- those of all objects, where the option is given
abbrev pub dynamic_data : Input → List DataSymbol
dynamic_data input =
    if input.link.args.export_dynamic
    then by_object (dynamic_in input) 0 input.link.objects else []

-- ---- by their names

-- the name is that of something that the linker makes, and the output has it
abbrev pub is_made_name : Input → List ℕ → Bool
is_made_name input name = option_map_or (is_made input) (symbol_named name) false

-- the symbol of that place is exported anyway
abbrev pub is_dynamic : Input → DataSymbol → Bool
is_dynamic input d =
    input.link.args.export_dynamic
    && option_map_or (is_dynamic_data input d.object d.symbol)
    (symbol_in input.link.objects d.object d.symbol) false

-- the data of an object, where this is its definition
abbrev pub data_of : Input → Definition → Option DataSymbol
data_of input (Symbol object number) =
    if option_map_or is_defined_data (symbol_in input.link.objects object number) false
    then Some (record { object = object; symbol = number }) else None
data_of input (Made m) = None

-- the data of an object that a name stands for, unless the linker makes the name
abbrev pub forced_by : Input → List ℕ → Option DataSymbol
forced_by input name =
    if is_made_name input name then None
    else option_and_then (data_of input) (named input.link name)

-- the data symbols whose names are to be exported, each once; those that are exported anyway aside
abbrev pub forced_data : Input → List DataSymbol
forced_data input =
    insert_all same_data []
    (filter (λ (d : DataSymbol). not (is_dynamic input d))
    (filter_map (forced_by input) input.link.args.export_symbols))
