use Rattle.std.proofs.lemmas.Result.{err_from_is_err_and}
use Rattle.wl_symbols.specs.Link.{link_of}
use Rattle.wildplan.proofs.WhyLaws.{none_twice, none_kept_in}
use Rattle.wildplan.proofs.modes.why_planned.Goals as goal

pub returns-in_err-symbols-clause-err : goal.returns-in_err-symbols-clause-err
returns-in_err-symbols-clause-err c =
    let p = err_from_is_err_and c.from_residual.result c.from_residual.ensures.1 in
    let clear = none_twice (link_of c.args.files.now c.args.args.now) c.requires in
    rw (p.1, p.2) (record { cause_is = λ not. clear.none _ (c.in_err-symbols.ensures.err.cause_is not) })

pub returns-in_err-live-clause-err : goal.returns-in_err-live-clause-err
returns-in_err-live-clause-err c =
    let p = err_from_is_err_and c.from_residual-in_err-live.result c.from_residual-in_err-live.ensures.1 in
    let clear = none_kept_in (link_of c.args.files.now c.args.args.now) c.in_ok-symbols.symbols c.in_ok-symbols.ensures.ok c.requires in
    rw (p.1, p.2) (record { cause_is = λ not. clear.none _ (c.in_err-live.ensures.err.cause_is not) })
