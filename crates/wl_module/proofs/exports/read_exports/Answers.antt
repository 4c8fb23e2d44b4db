use Rattle.wl_module.specs.Exports.{export_at}
use Rattle.wl_bytes.proofs.ListLaws.{reads_list}
use Rattle.wl_module.proofs.ImportLaws.{export_reading}
use Rattle.wl_module.proofs.CountLaws.{count_of, exports_few}
use Rattle.wl_module.proofs.exports.read_exports.Goals as goal

pub returns-clause-reads : goal.returns-clause-reads
returns-clause-reads c = reads_list (λ _. export_at) tt export_reading (λ v. v.items) c.args.payload.now c.read_payload.result c.read_payload.ensures

pub returns-clause-count : goal.returns-clause-count
returns-clause-count c = count_of _ _ _ _ _ exports_few (returns-clause-reads c)
