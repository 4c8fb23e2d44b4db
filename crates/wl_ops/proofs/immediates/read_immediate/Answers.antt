use Rattle.std.proofs.Common.{rules, w64, SFits}
use Rattle.std.proofs.lemmas.Int.{to_z-of_z}
use Rattle.std.proofs.lemmas.Result.{err_from_is_err_and}
use Rattle.wl_ops.proofs.Pushing.{one_is, one_fails, list_is, list_fails, catches_is, catches_fail}
use Rattle.wl_ops.proofs.immediates.read_immediate.Goals as goal

pub returns-in_err-value-in-One-clause-value : goal.returns-in_err-value-in-One-clause-value
returns-in_err-value-in-One-clause-value c =
    let p = err_from_is_err_and c.from_residual.result c.from_residual.ensures.1 in
    rw (p.1, p.2, c.in-One.is) (one_fails c.in-One.single c.in_err-value-in-One.field-0.0 c.args.args.now c.args.reader.now c.in_err-value-in-One.ensures.value)

pub returns-in_err-count-in-ListOf-clause-value : goal.returns-in_err-count-in-ListOf-clause-value
returns-in_err-count-in-ListOf-clause-value c =
    let p = err_from_is_err_and c.from_residual-in_err-count-in-ListOf.result c.from_residual-in_err-count-in-ListOf.ensures.1 in
    rw (p.1, p.2, c.in-ListOf.is) (list_fails c.in-ListOf.single c.in_err-count-in-ListOf.field-0.0 c.args.args.now c.args.reader.now c.in_err-count-in-ListOf.ensures.value)

pub returns-in_err-count-in-Catches-clause-value : goal.returns-in_err-count-in-Catches-clause-value
returns-in_err-count-in-Catches-clause-value c =
    let p = err_from_is_err_and c.from_residual-in_err-count-in-Catches.result c.from_residual-in_err-count-in-Catches.ensures.1 in
    rw (p.1, p.2, c.in-Catches.is) (catches_fail c.in_err-count-in-Catches.field-0.0 c.args.args.now c.args.reader.now c.in_err-count-in-Catches.ensures.value)

pub returns-in_ok-push-in-One-clause-value : goal.returns-in_ok-push-in-One-clause-value
returns-in_ok-push-in-One-clause-value c =
    let fits : SFits w64 c.in_ok-value-in-One.value = search rules in
    let same = to_z-of_z w64 c.in_ok-value-in-One.value fits in
    rw (c.in_ok-push-in-One.ensures, same, c.in-One.is) (one_is c.in-One.single c.args.args.now c.args.reader.now c.read_single.new.reader c.in_ok-value-in-One.value c.in_ok-value-in-One.ensures.value)

pub returns-in_ok-push_number-in-ListOf-clause-value : goal.returns-in_ok-push_number-in-ListOf-clause-value
returns-in_ok-push_number-in-ListOf-clause-value c =
    rw (c.in-ListOf.is, ← list_is c.in-ListOf.single c.args.args.now c.args.reader.now c.read_count.new.reader c.in_ok-count-in-ListOf.count c.in_ok-count-in-ListOf.ensures.value, ← c.in_ok-push_number-in-ListOf.ensures) c.read_singles.ensures.value

pub returns-in_ok-push_number-in-Catches-clause-value : goal.returns-in_ok-push_number-in-Catches-clause-value
returns-in_ok-push_number-in-Catches-clause-value c =
    rw (c.in-Catches.is, ← catches_is c.args.args.now c.args.reader.now c.read_count-in-Catches.new.reader c.in_ok-count-in-Catches.count c.in_ok-count-in-Catches.ensures.value, ← c.in_ok-push_number-in-Catches.ensures) c.read_catches.ensures.value
