use Rattle.std.proofs.Common.{◌∙◌, rules, w64, SFits}
use Rattle.std.proofs.lemmas.Int.{to_z-of_z}
use Rattle.std.proofs.lemmas.Result.{err_from_is_err_and}
use Rattle.wl_bytes.specs.Grammar.{times_at}
use Rattle.wl_ops.specs.Front.{with_front}
use Rattle.wl_ops.specs.Immediates.{single_at}
use Rattle.wl_ops.proofs.Pushing.{goes_on, ends, is_done}
use Rattle.wl_ops.proofs.immediates.read_singles.Goals as goal

pub returns-in_err-value-clause-value : goal.returns-in_err-value-clause-value
returns-in_err-value-clause-value c =
    let p = err_from_is_err_and c.from_residual.result c.from_residual.ensures.1 in
    rw (p.1, p.2) (ends (single_at c.args.single) c.in_err-value.field-0.0 c.loop.args c.args.count c.loop.counter c.loop.reader (with_front c.args.args.now (times_at (single_at c.args.single) c.args.count c.args.reader.now)) c.loop-test.true c.in_err-value.ensures.value c.loop.invariant.0)

pub loop-preserved : goal.loop-preserved
loop-preserved c =
    let fits : SFits w64 c.in_ok-value.value = search rules in
    let same = to_z-of_z w64 c.in_ok-value.value fits in
    rw (c.in_ok-push.ensures, same) (
      goes_on (single_at c.args.single) c.loop.args c.args.count c.loop.counter c.loop.reader c.in_ok-value.value c.read_single.new.reader (with_front c.args.args.now (times_at (single_at c.args.single) c.args.count c.args.reader.now)) c.loop-test.true c.in_ok-value.ensures.value c.loop.invariant.0,
      c.in_ok-value.ensures.end ∙ c.loop.invariant.1,
    )

pub returns-clause-value : goal.returns-clause-value
returns-clause-value c = is_done (single_at c.args.single) c.loop.args c.args.count c.loop.counter c.loop.reader (with_front c.args.args.now (times_at (single_at c.args.single) c.args.count c.args.reader.now)) c.loop-test.false c.loop.invariant.0
