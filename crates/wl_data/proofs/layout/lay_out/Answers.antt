use Rattle.std.proofs.Common.{arith}
use Rattle.std.proofs.lemmas.List.{take_all}
use Rattle.std.proofs.lemmas.Result.{err_from_is_err_and}
use Rattle.wl_linking.proofs.StepLaws.{refuses_more}
use Rattle.wl_data.proofs.LayoutLaws.{passes_there, laid_more, no_pass}
use Rattle.wl_data.proofs.layout.lay_out.Goals as goal

pub returns-in_err-add-clause-err : goal.returns-in_err-add-clause-err
returns-in_err-add-clause-err c =
    let p = err_from_is_err_and c.from_residual-in_err-add.result c.from_residual-in_err-add.ensures.1 in
    let there = passes_there c.args.pass c.args.segments.now c.loop-segment.segment-index c.segment-item.result c.args.frontier.now c.loop-segment.frontier c.loop-segment.layouts.items c.loop-segment-test.true c.segment-item.is c.requires c.loop-segment.invariant in
    rw (p.1, p.2) (refuses_more _ _ _ (λ x. (x.0, there x.1)) c.in_err-add.ensures.err)

pub loop-segment-preserved : goal.loop-segment-preserved
loop-segment-preserved c =
    let adds = c.in_ok-add.ensures.ok in
    laid_more c.args.pass c.args.segments.now c.loop-segment.segment-index c.segment-item.result c.args.frontier.now c.loop-segment.frontier c.add.new.frontier c.loop-segment.layouts.items c.add.new.layouts.items adds.0 c.loop-segment-test.true c.segment-item.is c.loop-segment.invariant adds.1 adds.2

pub returns-clause-clear : goal.returns-clause-clear
returns-clause-clear c =
    let all = take_all c.loop-segment.segment-index c.args.segments.now c.loop-segment-test.false in
    no_pass c.args.pass c.args.segments.now c.args.frontier.now c.loop-segment.frontier c.loop-segment.layouts.items (rw all at c.loop-segment.invariant) (omega arith) (omega arith)
