use Rattle.std.proofs.Common.{rules}
use Rattle.wl_bytes.proofs.ListLaws.{reads_whole}
use Rattle.wl_bytes.proofs.Loops.{list_kept}
use Rattle.wl_module.proofs.SegmentLaws.{segments_reading}
use Rattle.wl_module.proofs.CountLaws.{count_of, segments_few}
use Rattle.wl_module.proofs.segments.read_segments.Goals as goal

pub returns-in_err-targeted-clause-reads : goal.returns-in_err-targeted-clause-reads
returns-in_err-targeted-clause-reads c = reads_whole (λ v. v.items) _ _ _ segments_reading c.args.payload.now _ (search (rules, list_kept))

pub returns-in_err-without_memories-clause-reads : goal.returns-in_err-without_memories-clause-reads
returns-in_err-without_memories-clause-reads c = reads_whole (λ v. v.items) _ _ _ segments_reading c.args.payload.now _ (search (rules, list_kept))

pub returns-clause-reads : goal.returns-clause-reads
returns-clause-reads c = reads_whole (λ v. v.items) _ _ _ segments_reading c.args.payload.now _ (search (rules, list_kept))

pub returns-clause-count : goal.returns-clause-count
returns-clause-count c = count_of _ _ _ _ _ segments_few (returns-clause-reads c)
