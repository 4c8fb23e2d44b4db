use Rattle.std.proofs.lemmas.Result.{err_from_is_err_and}
use Rattle.wl_ops.proofs.Pushing.{catch_is, catch_fails}
use Rattle.wl_ops.proofs.immediates.read_catch.Goals as goal

pub returns-in_err-kind-clause-value : goal.returns-in_err-kind-clause-value
returns-in_err-kind-clause-value c =
    let p = err_from_is_err_and c.from_residual.result c.from_residual.ensures.1 in
    rw (p.1, p.2) (catch_fails c.in_err-kind.field-0.0 c.args.args.now c.args.reader.now c.in_err-kind.ensures.value)

pub returns-clause-value : goal.returns-clause-value
returns-clause-value c =
    let pushed = rw c.from.ensures at c.in_ok-push_number.ensures in
    rw (← catch_is c.args.args.now c.args.reader.now c.read_catch_kind.new.reader c.in_ok-kind.kind c.in_ok-kind.ensures.value, ← pushed, ← c.catch_numbers.ensures) c.read_singles.ensures.value
