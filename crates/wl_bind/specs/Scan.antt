-- What kept relocations ask for: entries of the two GOT lists, functions of the table, and things
-- that the linker makes.
use Rattle.std.specs.Prelude.{ℕ, ◌&&◌, ◌||◌, Bool, false, List, [], map, if◌then◌else◌, Option, Some, None}
use Rattle.std.specs.List.{filter_map, list_any}
use Rattle.std.specs.Option.{option_map, option_map_or, option_and_then}
use Rattle.indexmap.specs.IndexSet.{insert_all}
use Rattle.wl_custom.specs.RelocationTypes.{is_global_index, is_table_index, is_table_relative, is_table_number, is_memory_relative}
use Rattle.wl_custom.specs.Symbols.{Symbol as LinkedSymbol, is_data, is_function}
use Rattle.wl_custom.specs.declared.relocation_type.RelocationType.{RelocationType}
use Rattle.wl_symbols.specs.Entries.{symbol_in}
use Rattle.wl_symbols.specs.Names.{def}
use Rattle.wl_symbols.specs.LinkerNames.{name_of}
use Rattle.wl_symbols.specs.declared.entry.Definition.{Definition}
use Rattle.wl_symbols.specs.declared.entry.Definition.TheVariants.{Symbol, Made as MadeName}
use Rattle.wl_symbols.specs.Input.{Input}
use Rattle.wl_symbols.specs.Relocations.{relocations}
use Rattle.wl_bind.specs.FunctionSymbols.{fun}
use Rattle.wl_bind.specs.Sameness.{same_definition, same_target, same_pair}
use Rattle.wl_bind.specs.declared.binding.FunctionTarget.{FunctionTarget}
use Rattle.wl_bind.specs.declared.binding.FunctionTarget.TheVariants.{Defined, Made, Host, Stub}
use Rattle.wl_symbols.specs.declared.relocated.Relocated.{Relocated}
use Rattle.wl_bind.specs.declared.scan.RelocNeeds.{RelocNeeds}

-- ---- what a kept relocation names

-- the symbol that it names
abbrev pub symbol_of : Input → Relocated → Option LinkedSymbol
symbol_of input r = symbol_in input.link.objects r.object r.relocation.index

-- it names a data symbol
abbrev pub names_data : Input → Relocated → Bool
names_data input r = option_map_or (λ (s : LinkedSymbol). is_data s.kind) (symbol_of input r) false

-- it names a function symbol
abbrev pub names_function : Input → Relocated → Bool
names_function input r =
    option_map_or (λ (s : LinkedSymbol). is_function s.kind) (symbol_of input r) false

-- what the symbol that it names stands for
abbrev pub definition_of : Input → Relocated → Definition
definition_of input r = def input.link r.object r.relocation.index

-- the function that the symbol that it names leads to
abbrev pub function_of : Input → Relocated → Option FunctionTarget
function_of input r = fun input r.object r.relocation.index

-- ---- lists of first occurrences over kept relocations

-- the definition of a data symbol under the number of a global
abbrev pub got_mem_of : Input → Relocated → Option Definition
got_mem_of input r =
    if is_global_index r.relocation.ty && names_data input r
    then Some (definition_of input r) else None

-- GOT.mem
abbrev pub got_mem : Input → List Definition
got_mem input = insert_all same_definition [] (filter_map (got_mem_of input) (relocations input))

-- the definition of a function symbol under the number of a global, and the function that it leads
-- to
abbrev pub got_func_of : Input → Relocated → Option (Definition × FunctionTarget)
got_func_of input r =
    if is_global_index r.relocation.ty && names_function input r
    then option_map (λ f. (definition_of input r, f)) (function_of input r) else None

-- GOT.func
abbrev pub got_func : Input → List (Definition × FunctionTarget)
got_func input = insert_all same_pair [] (filter_map (got_func_of input) (relocations input))

-- a stub has no slot in the table
abbrev pub unless_stub : FunctionTarget → Option FunctionTarget
unless_stub (Defined object function) = Some (Defined object function)
unless_stub (Made m) = Some (Made m)
unless_stub (Host object slot) = Some (Host object slot)
unless_stub (Stub object slot) = None

-- the function that a function symbol under the slot of a function or the number of a global leads
-- to, unless it is a stub
abbrev pub table_function_of : Input → Relocated → Option FunctionTarget
table_function_of input r =
    if (is_table_index r.relocation.ty || is_global_index r.relocation.ty) && names_function input r
    then option_and_then unless_stub (function_of input r) else None

-- the functions of the table
abbrev pub table_functions : Input → List FunctionTarget
table_functions input =
    insert_all same_target [] (filter_map (table_function_of input) (relocations input))

-- ---- needs

-- a kept relocation has one of these types
abbrev pub asks_for : Input → (RelocationType → Bool) → Bool
asks_for input test = list_any (λ (r : Relocated). test r.relocation.ty) (relocations input)

-- the relocation asks for the table: by the slot of a function, by the table's number, or by the
-- number of a global, if it names a function
abbrev pub asks_for_table : Input → Relocated → Bool
asks_for_table input r =
    is_table_index r.relocation.ty || is_table_number r.relocation.ty
    || (is_global_index r.relocation.ty && names_function input r)

-- what the functions of the linker are asked for
abbrev pub needs_of : Input → RelocNeeds
needs_of input = record {
  memory_base = asks_for input is_memory_relative;
  table_base = asks_for input is_table_relative;
  table = list_any (asks_for_table input) (relocations input);
}

-- ---- the scan as clauses see it

-- the name of a definition: of the symbol, or of what the linker makes; nothing has an empty one
abbrev pub definition_name : Input → Definition → List ℕ
definition_name input (Symbol object number) =
    option_map_or (λ (s : LinkedSymbol). s.name) (symbol_in input.link.objects object number) []
definition_name input (MadeName m) = name_of m

-- what a global of the GOT holds, with the name of its definition
pub record Named (K : Type 0) : Type 0 where
  pub key : K
  pub name : List ℕ

-- an entry of the GOT list of data: a definition
abbrev pub got_mem_entry : Input → Definition → Named Definition
got_mem_entry input d = record { key = d; name = definition_name input d }

-- an entry of the GOT list of functions: a definition, and the function that it leads to
abbrev pub got_func_entry : Input → Definition × FunctionTarget → Named (Definition × FunctionTarget)
got_func_entry input p = record { key = p; name = definition_name input p.0 }

-- what a scan reports
pub record Scanned : Type 0 where
  pub got_mem : List (Named Definition)
  pub got_func : List (Named (Definition × FunctionTarget))
  pub table_functions : List FunctionTarget
  pub needs : RelocNeeds

-- the scan of a link
abbrev pub scan_of : Input → Scanned
scan_of input = record {
  got_mem = map (got_mem_entry input) (got_mem input);
  got_func = map (got_func_entry input) (got_func input);
  table_functions = table_functions input;
  needs = needs_of input;
}
