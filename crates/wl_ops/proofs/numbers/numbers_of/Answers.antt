use Rattle.std.proofs.lemmas.Result.{err_from_is_err_and}
use Rattle.wl_ops.proofs.DecodeLaws.{locals_reading}
use Rattle.wl_ops.proofs.NumberLaws.{numbers_whole, locals_fail}
use Rattle.wl_bytes.specs.Lists.{start}
use Rattle.wl_ops.proofs.numbers.numbers_of.Goals as goal

pub returns-in_err-skip_locals : goal.returns-in_err-skip_locals
returns-in_err-skip_locals c =
    let p = err_from_is_err_and c.from_residual.result c.from_residual.ensures.1 in
    let h = rw c.new-reader.ensures at c.in_err-skip_locals.ensures.value in
    rw (p.1, p.2) (locals_fail c.args.body.now c.in_err-skip_locals.field-0.0 h)

pub returns : goal.returns
returns c =
    let h = rw c.new-reader.ensures at c.in_ok-skip_locals.ensures.value in
    numbers_whole (λ v. v.items) c.args.body.now c.skip_locals.new.reader c.numbers_in.result (locals_reading.found (start c.args.body.now) tt c.skip_locals.new.reader h) c.numbers_in.ensures
