use Rattle.std.proofs.lemmas.Result.{err_from_is_err_and}
use Rattle.wl_bind.specs.steps.Merging.{is_marked}
use Rattle.wl_bind.proofs.MergeLaws.{marked_more, marked_full, marked_done}
use Rattle.wl_bind.proofs.merging.merge_marked.Goals as goal

pub returns-in_err-index-clause-err : goal.returns-in_err-index-clause-err
returns-in_err-index-clause-err c =
    let p = err_from_is_err_and c.from_residual.result c.from_residual.ensures.1 in
    rw (p.1, p.2) (marked_full
    (is_marked c.args.marks.now) c.args.types.now c.loop-number.number
    c.index-types-number.result c.args.merger.now
    c.loop-number-test.true c.index-types-number.is c.loop-number.merger c.loop-number.indices
    c.in_err-index.field-0.0
    c.loop-number.invariant c.in_err-index.ensures.err)

pub loop-number-preserved : goal.loop-number-preserved
loop-number-preserved c =
    rw c.in_ok-push.ensures.ok (marked_more
    (is_marked c.args.marks.now) c.args.types.now c.loop-number.number c.index-types-number.result
    c.args.merger.now c.loop-number-test.true c.index-types-number.is c.loop-number.merger
    c.merge_type.new.merger c.loop-number.indices
    c.in_ok-index.index c.in_ok-index.ensures.types c.in_ok-index.ensures.index
    c.loop-number.invariant)

pub returns-clause-indices : goal.returns-clause-indices
returns-clause-indices c =
    marked_done (is_marked c.args.marks.now) c.args.types.now c.loop-number.number
    c.args.merger.now c.loop-number.merger c.loop-number.indices
    c.loop-number-test.false c.loop-number.invariant
