-- What a walk over the kept relocations has found so far.
use Rattle.std.specs.Prelude.{map}
use Rattle.std.specs.Option.{option_map}
use Rattle.wl_bind.specs.GotSteps.{named}
use Rattle.wl_bind.specs.steps.Scanning.{Found, Entries, Faults}
use Rattle.wl_bind.specs.UndefinedSteps.{as_undefined}
use Rattle.wl_bind.specs.declared.questions.ListEntries.{ListEntries}
use Rattle.wl_bind.specs.declared.questions.RelocFaults.{RelocFaults}
use Rattle.wl_bind.specs.declared.scanning.Walk.{Walk}

-- what one relocation asks for of the lists
abbrev pub entries_by : ListEntries → Entries
entries_by e = record {
  got_mem = option_map named e.got_mem;
  got_func = option_map named e.got_func;
  table_function = e.table_function;
}

-- why it may be refused
abbrev pub faults_by : RelocFaults → Faults
faults_by f = record {
  is_wrong = f.is_wrong;
  is_mismatch = f.is_mismatch;
  undefined = option_map as_undefined f.undefined;
}

-- a field for each question
abbrev pub found_by : Walk → Found
found_by w = record {
  got_mem = map named w.got_mem.entries;
  got_func = map named w.got_func.entries;
  table_functions = w.table_functions;
  needs = w.needs;
  wrong = w.wrong;
  mismatch = w.mismatch;
  undefined = w.undefined;
}
