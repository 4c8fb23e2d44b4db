use Rattle.std.proofs.Common.{◌∙◌}
use Rattle.std.proofs.lemmas.Result.{err_from_is_err_and}
use Rattle.wl_bytes.specs.Grammar.{times_at}
use Rattle.wl_bytes.specs.Checks.{any_at}
use Rattle.wl_ops.specs.Decoding.{local_at}
use Rattle.wl_ops.proofs.Passing.{passes_on, passing_ends, passing_done}
use Rattle.wl_ops.proofs.decoding.pass_locals.Goals as goal

pub returns-in_err-read_local-clause-value : goal.returns-in_err-read_local-clause-value
returns-in_err-read_local-clause-value c =
    let p = err_from_is_err_and c.from_residual.result c.from_residual.ensures.1 in
    rw (p.1, p.2) (passing_ends local_at c.in_err-read_local.field-0.0 c.args.count c.loop.counter c.loop.reader (any_at (times_at local_at c.args.count) c.args.reader.now) c.loop-test.true c.in_err-read_local.ensures.value c.loop.invariant.0)

pub loop-preserved : goal.loop-preserved
loop-preserved c = (
  passes_on local_at c.args.count c.loop.counter c.loop.reader c.in_ok-read_local.field-0 c.read_local.new.reader (any_at (times_at local_at c.args.count) c.args.reader.now) c.loop-test.true c.in_ok-read_local.ensures.value c.loop.invariant.0,
  c.in_ok-read_local.ensures.end ∙ c.loop.invariant.1,
)

pub returns-clause-value : goal.returns-clause-value
returns-clause-value c = passing_done local_at c.args.count c.loop.counter c.loop.reader (any_at (times_at local_at c.args.count) c.args.reader.now) c.loop-test.false c.loop.invariant.0
