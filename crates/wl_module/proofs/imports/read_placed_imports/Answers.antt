use Rattle.wl_bytes.proofs.ListLaws.{reads_whole}
use Rattle.wl_module.proofs.ImportLaws.{placed_imports_reading}
use Rattle.wl_module.proofs.CountLaws.{count_of, placed_imports_few}
use Rattle.wl_module.proofs.imports.read_placed_imports.Goals as goal

pub returns-clause-reads : goal.returns-clause-reads
returns-clause-reads c = reads_whole (λ v. v.items) _ _ _ placed_imports_reading c.args.payload.now c.read_payload.result c.read_payload.ensures

pub returns-clause-count : goal.returns-clause-count
returns-clause-count c = count_of _ _ _ _ _ placed_imports_few (returns-clause-reads c)
