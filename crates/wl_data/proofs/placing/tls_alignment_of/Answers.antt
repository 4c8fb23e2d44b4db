use Rattle.wl_data.proofs.QuestionLaws.{greatest_more}
use Rattle.wl_data.proofs.placing.tls_alignment_of.Goals as goal

pub loop-segment-preserved : goal.loop-segment-preserved
loop-segment-preserved c =
    let more = greatest_more c.args.segments.now c.loop-segment.segment-index c.segment-item.result c.loop-segment-test.true c.segment-item.is in
    cc
