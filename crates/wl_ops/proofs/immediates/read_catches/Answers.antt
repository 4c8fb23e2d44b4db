use Rattle.std.proofs.Common.{◌∙◌}
use Rattle.std.proofs.lemmas.Result.{err_from_is_err_and}
use Rattle.wl_ops.specs.Front.{with_front}
use Rattle.wl_ops.specs.Immediates.{catch_at, flat_at}
use Rattle.wl_ops.proofs.Pushing.{front_ok, front_fails, flat_goes_on, flat_ends, flat_done}
use Rattle.wl_ops.proofs.immediates.read_catches.Goals as goal

pub returns-in_err-read_catch-clause-value : goal.returns-in_err-read_catch-clause-value
returns-in_err-read_catch-clause-value c =
    let p = err_from_is_err_and c.from_residual.result c.from_residual.ensures.1 in
    rw (p.1, p.2) (flat_ends catch_at c.in_err-read_catch.field-0.0 c.loop.args c.args.count c.loop.counter c.loop.reader (with_front c.args.args.now (flat_at catch_at c.args.count c.args.reader.now)) c.loop-test.true
    (front_fails c.in_err-read_catch.field-0.0 c.loop.args (catch_at c.loop.reader) c.in_err-read_catch.ensures.value) c.loop.invariant.0)

pub loop-preserved : goal.loop-preserved
loop-preserved c =
    let more = front_ok c.loop.args c.read_catch.new.args c.read_catch.new.reader (catch_at c.loop.reader) c.in_ok-read_catch.ensures.value in
    rw (← more.2) (
      flat_goes_on catch_at c.loop.args more.0 c.args.count c.loop.counter c.loop.reader c.read_catch.new.reader (with_front c.args.args.now (flat_at catch_at c.args.count c.args.reader.now)) c.loop-test.true more.1 c.loop.invariant.0,
      c.in_ok-read_catch.ensures.end ∙ c.loop.invariant.1,
    )

pub returns-clause-value : goal.returns-clause-value
returns-clause-value c = flat_done catch_at c.loop.args c.args.count c.loop.counter c.loop.reader (with_front c.args.args.now (flat_at catch_at c.args.count c.args.reader.now)) c.loop-test.false c.loop.invariant.0
