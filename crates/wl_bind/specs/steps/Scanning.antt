-- One walk over the kept relocations, a field for each question.
use Rattle.std.specs.Prelude.{◌||◌, Bool, false, List, [], fold, Option, None, Some, if◌then◌else◌}
use Rattle.std.specs.Option.{option_or, option_map}
use Rattle.wl_custom.specs.RelocationTypes.{is_global_index, is_table_index, is_memory_relative, is_table_relative}
use Rattle.wl_linking.specs.declared.error.UndefinedSymbol.{UndefinedSymbol}
use Rattle.wl_symbols.specs.Input.{Input}
use Rattle.wl_symbols.specs.declared.entry.Definition.{Definition}
use Rattle.wl_symbols.specs.Relocations.{relocations}
use Rattle.wl_symbols.specs.declared.relocated.Relocated.{Relocated}
use Rattle.wl_bind.specs.BindingSteps.{names_mismatch}
use Rattle.wl_bind.specs.GotSteps.{insert_some, add_entry}
use Rattle.wl_bind.specs.steps.Kinds.{is_wrong_relocation}
use Rattle.wl_bind.specs.Sameness.{same_definition, same_target, same_pair}
use Rattle.wl_bind.specs.Scan.{Scanned, Named, got_mem_of, got_mem_entry, got_func_of, got_func_entry, table_function_of, asks_for_table}
use Rattle.wl_bind.specs.Undefined.{undefined_data_of}
use Rattle.wl_bind.specs.UndefinedSteps.{insert_some as insert_undefined}
use Rattle.wl_bind.specs.declared.binding.FunctionTarget.{FunctionTarget}
use Rattle.wl_bind.specs.declared.scan.RelocNeeds.{RelocNeeds}

-- what relocations ask for, and what of them is refused
pub record Found : Type 0 where
  pub got_mem : List (Named Definition)
  pub got_func : List (Named (Definition × FunctionTarget))
  pub table_functions : List FunctionTarget
  pub needs : RelocNeeds
  pub wrong : Option Relocated
  pub mismatch : Option Relocated
  pub undefined : List UndefinedSymbol

-- what they ask for
abbrev pub scan_part : Found → Scanned
scan_part f = record {
  got_mem = f.got_mem;
  got_func = f.got_func;
  table_functions = f.table_functions;
  needs = f.needs;
}

-- nothing
abbrev pub nothing_found : Found
nothing_found = record {
  got_mem = [];
  got_func = [];
  table_functions = [];
  needs = record { memory_base = false; table_base = false; table = false };
  wrong = None;
  mismatch = None;
  undefined = [];
}

-- the first relocation, where this one is such a one or not
abbrev pub first_such : Option Relocated → Bool → Relocated → Option Relocated
first_such first is_such r = option_or first (if is_such then Some r else None)

-- ---- one relocation

-- what one relocation asks for of the lists
pub record Entries : Type 0 where
  pub got_mem : Option (Named Definition)
  pub got_func : Option (Named (Definition × FunctionTarget))
  pub table_function : Option FunctionTarget

-- why it may be refused, and the undefined data that it names
pub record Faults : Type 0 where
  pub is_wrong : Bool
  pub is_mismatch : Bool
  pub undefined : Option UndefinedSymbol

-- its type is one by which the lists are asked for anything
abbrev pub asks_for_entries : Relocated → Bool
asks_for_entries r = is_global_index r.relocation.ty || is_table_index r.relocation.ty

abbrev pub entries_of : Input → Relocated → Entries
entries_of input r = record {
  got_mem = option_map (got_mem_entry input) (got_mem_of input r);
  got_func = option_map (got_func_entry input) (got_func_of input r);
  table_function = table_function_of input r;
}

abbrev pub faults_of : Input → Relocated → Faults
faults_of input r = record {
  is_wrong = is_wrong_relocation input r;
  is_mismatch = names_mismatch input r;
  undefined = undefined_data_of input r;
}

-- what else it asks for
abbrev pub needs_by : Input → Relocated → RelocNeeds
needs_by input r = record {
  memory_base = is_memory_relative r.relocation.ty;
  table_base = is_table_relative r.relocation.ty;
  table = asks_for_table input r;
}

-- ---- all of them

-- what is found, with what one more asks for of the lists
abbrev pub with_entries : Found → Entries → Found
with_entries f e = record f {
  got_mem = add_entry same_definition f.got_mem e.got_mem;
  got_func = add_entry same_pair f.got_func e.got_func;
  table_functions = insert_some same_target f.table_functions e.table_function;
}

-- with what else it asks for
abbrev pub with_needs : Found → RelocNeeds → Found
with_needs f more = record f {
  needs = record {
    memory_base = f.needs.memory_base || more.memory_base;
    table_base = f.needs.table_base || more.table_base;
    table = f.needs.table || more.table;
  };
}

-- with what it may be refused for
abbrev pub with_faults : Found → Faults → Relocated → Found
with_faults f x r = record f {
  wrong = first_such f.wrong x.is_wrong r;
  mismatch = first_such f.mismatch x.is_mismatch r;
  undefined = insert_undefined f.undefined x.undefined;
}

-- what is found with one more
abbrev pub found_at : Input → Found → Relocated → Found
found_at input f r =
    with_entries (with_needs (with_faults f (faults_of input r) r) (needs_by input r))
    (entries_of input r)

-- what all kept relocations of a link have
abbrev pub found_in : Input → Found
found_in input = fold (found_at input) nothing_found (relocations input)
