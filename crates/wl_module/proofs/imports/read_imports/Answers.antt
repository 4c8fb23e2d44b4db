use Rattle.std.proofs.Common.{rules}
use Rattle.wl_bytes.proofs.ListLaws.{reads_whole}
use Rattle.wl_module.proofs.ImportLaws.{imports_reading}
use Rattle.wl_module.proofs.CountLaws.{count_of, imports_few}
use Rattle.wl_module.proofs.imports.read_imports.Goals as goal

pub returns-in_err-placed-clause-reads : goal.returns-in_err-placed-clause-reads
returns-in_err-placed-clause-reads c = reads_whole (λ v. v.items) _ _ _ imports_reading c.args.payload.now _ (search rules)

pub returns-in_err-without_places-clause-reads : goal.returns-in_err-without_places-clause-reads
returns-in_err-without_places-clause-reads c = reads_whole (λ v. v.items) _ _ _ imports_reading c.args.payload.now _ (search rules)

pub returns-clause-reads : goal.returns-clause-reads
returns-clause-reads c = reads_whole (λ v. v.items) _ _ _ imports_reading c.args.payload.now _ (search rules)

pub returns-clause-count : goal.returns-clause-count
returns-clause-count c = count_of _ _ _ _ _ imports_few (returns-clause-reads c)
