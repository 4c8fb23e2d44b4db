use Rattle.wl_module.specs.Globals.{global_at}
use Rattle.wl_bytes.proofs.ListLaws.{reads_list}
use Rattle.wl_module.proofs.GlobalLaws.{global_reading}
use Rattle.wl_module.proofs.CountLaws.{count_of, globals_few}
use Rattle.wl_module.proofs.globals.read_globals.Goals as goal

pub returns-clause-reads : goal.returns-clause-reads
returns-clause-reads c = reads_list (λ _. global_at) tt global_reading (λ v. v.items) c.args.payload.now c.read_payload.result c.read_payload.ensures

pub returns-clause-count : goal.returns-clause-count
returns-clause-count c = count_of _ _ _ _ _ globals_few (returns-clause-reads c)
