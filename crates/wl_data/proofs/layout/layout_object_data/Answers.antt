use Rattle.std.proofs.Common.{false, refl}
use Rattle.std.proofs.lemmas.Result.{err_from_is_err_and}
use Rattle.wl_data.proofs.LayoutLaws.{laid_in_memory}
use Rattle.wl_data.proofs.layout.layout_object_data.Goals as goal

pub returns-in_err-layouts-in-Some-clause-unchanged : goal.returns-in_err-layouts-in-Some-clause-unchanged
returns-in_err-layouts-in-Some-clause-unchanged c =
    let p = err_from_is_err_and c.from_residual-in_err-layouts-in-Some.result c.from_residual-in_err-layouts-in-Some.ensures.1 in
    rw c.in-Some.is (rw p.1 refl)

pub returns-in_ok-layouts-in-None-clause-ok : goal.returns-in_ok-layouts-in-None-clause-ok
returns-in_ok-layouts-in-None-clause-ok c =
    rw c.in-None.is
    (laid_in_memory (record { tls = c.args.want_tls; shared_init = c.args.shared_passive_init; has_block = false }) c.args.segments.now (record { memory = c.args.memory_cursor.now; block = 0 }) c.lay_out.new.frontier c.in_ok-layouts-in-None.layouts.items refl
    (rw (c.is_some.ensures, c.in-None.is) at c.in_ok-layouts-in-None.ensures.ok))

pub returns-in_ok-layouts-in-Some-clause-ok : goal.returns-in_ok-layouts-in-Some-clause-ok
returns-in_ok-layouts-in-Some-clause-ok c = rw c.in-Some.is (rw (c.is_some.ensures, c.in-Some.is) at c.in_ok-layouts-in-Some.ensures.ok)
