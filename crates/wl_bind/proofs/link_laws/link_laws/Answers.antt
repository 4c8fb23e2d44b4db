use Rattle.wl_bind.proofs.link_laws.link_laws.Goals as goal

pub returns : goal.returns
returns c = record {
  fitting = c.whole_objects.ensures.fitting;
  few = c.whole_objects.ensures.imports;
  functions = c.slots_are_numbered.ensures.functions;
  globals = c.slots_are_numbered.ensures.globals;
  numbers = c.definitions_have_numbers.ensures;
  by_symbol = c.live_units_are_closed.ensures.symbol;
  by_slot = c.live_units_are_closed.ensures.slot;
  targets = c.targets_by_cases.ensures;
  names = c.name_by_cases.ensures.name;
  symbols = c.name_by_cases.ensures.shared;
  imports = c.host_imports_are_found.ensures;
}
