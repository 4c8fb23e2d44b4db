use Rattle.wl_bytes.proofs.ListLaws.{reads_whole}
use Rattle.wl_module.proofs.GlobalLaws.{memories_reading}
use Rattle.wl_module.proofs.CountLaws.{count_of, memories_few}
use Rattle.wl_module.proofs.memories.read_memories.Goals as goal

pub returns-clause-reads : goal.returns-clause-reads
returns-clause-reads c = reads_whole (λ v. v.items) _ _ _ (memories_reading c.args.imported) c.args.payload.now c.read_payload.result c.read_payload.ensures

pub returns-clause-count : goal.returns-clause-count
returns-clause-count c = count_of _ _ _ _ _ (memories_few c.args.imported) (returns-clause-reads c)
