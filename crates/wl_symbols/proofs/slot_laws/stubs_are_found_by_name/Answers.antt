use Rattle.wl_symbols.proofs.FirstImportLaws.{stub_found, stub_there}
use Rattle.wl_symbols.proofs.slot_laws.stubs_are_found_by_name.Goals as goal

pub returns-clause-told : goal.returns-clause-told
returns-clause-told c = stub_found

pub returns-clause-place : goal.returns-clause-place
returns-clause-place c = stub_there
