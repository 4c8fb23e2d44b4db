use Rattle.wl_symbols.proofs.FirstImportLaws.{stubs_once, imports_once}
use Rattle.wl_symbols.proofs.slot_laws.imports_stand_once.Goals as goal

pub returns-clause-stubs : goal.returns-clause-stubs
returns-clause-stubs c = stubs_once

pub returns-clause-host_imports : goal.returns-clause-host_imports
returns-clause-host_imports c = imports_once
