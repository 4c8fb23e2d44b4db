use Rattle.wl_module.specs.Segments.{segment_at}
use Rattle.wl_bytes.proofs.ListLaws.{reads_list}
use Rattle.wl_module.proofs.SegmentLaws.{segment_reading}
use Rattle.wl_module.proofs.CountLaws.{count_of, targeted_few}
use Rattle.wl_module.proofs.segments.read_targeted_segments.Goals as goal

pub returns-clause-reads : goal.returns-clause-reads
returns-clause-reads c = reads_list (λ _. segment_at) tt segment_reading (λ v. v.items) c.args.payload.now c.read_payload.result c.read_payload.ensures

pub returns-clause-count : goal.returns-clause-count
returns-clause-count c = count_of _ _ _ _ _ targeted_few (returns-clause-reads c)
