use Rattle.wl_bytes.proofs.ListLaws.{exact}
use Rattle.wl_module.proofs.ImportLaws.{placed_imports_reading}
use Rattle.wl_module.proofs.imports.placed_imports_or_fault.Goals as goal

pub returns : goal.returns
returns c = exact placed_imports_reading
