use Rattle.std.proofs.Common.{◌∙◌, sym}
use Rattle.std.proofs.lemmas.Result.{err_from_is_err_and}
use Rattle.wl_module.proofs.ConstantLaws.{skips_more, skips_less, expression_ends, expression_fails}
use Rattle.wl_module.proofs.constants.read_expression.Goals as goal

pub returns-in_err-read_step : goal.returns-in_err-read_step
returns-in_err-read_step c =
    let p = err_from_is_err_and c.from_residual.result c.from_residual.ensures.1 in
    rw (p.1, p.2) (expression_fails c.loop-reader.invariant.0 c.args.reader.now c.loop-reader.reader c.in_err-read_step.field-0.0 c.loop-reader.invariant.1 c.in_err-read_step.ensures)

pub loop-reader-smaller : goal.loop-reader-smaller
loop-reader-smaller c = skips_less c.in_ok-read_step.field-0 c.loop-reader.reader c.read_step.new.reader (sym c.is_some.ensures ∙ c.if-is_some.true) c.in_ok-read_step.ensures

pub loop-reader-preserved : goal.loop-reader-preserved
loop-reader-preserved c =
    let more = skips_more c.loop-reader.invariant.0 c.in_ok-read_step.field-0 c.args.reader.now c.loop-reader.reader c.read_step.new.reader (sym c.is_some.ensures ∙ c.if-is_some.true) c.loop-reader.invariant.1 c.in_ok-read_step.ensures in
    (more.0, more.1, c.position-end.ensures.value)

pub returns : goal.returns
returns c =
    let ended = expression_ends c.loop-reader.invariant.0 c.in_ok-read_step.field-0 c.args.reader.now c.loop-reader.reader c.read_step.new.reader (sym c.is_some.ensures ∙ c.if-is_some.false) c.loop-reader.invariant.1 c.in_ok-read_step.ensures in
    rw (c.loop-reader.invariant.2, c.position-start.ensures.value, c.rest-bytes.ensures.value) ended
