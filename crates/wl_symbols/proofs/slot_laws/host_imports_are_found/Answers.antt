use Rattle.wl_symbols.proofs.FirstImportLaws.{import_found}
use Rattle.wl_symbols.proofs.slot_laws.host_imports_are_found.Goals as goal

pub returns : goal.returns
returns c = import_found
