use Rattle.std.proofs.Common.{◌∙◌, not, ap}
use Rattle.std.proofs.lemmas.Result.{err_from_is_err_and}
use Rattle.wl_plan.proofs.FunctionLaws.{no_init}
use Rattle.wl_plan.proofs.MadeBodyLaws.{adds_init, adds_no_init, init_index, init_refused, no_flag}
use Rattle.wl_plan.proofs.bodies.push_init_memory.Goals as goal

pub returns-then-is_none-clause-ok : goal.returns-then-is_none-clause-ok
returns-then-is_none-clause-ok c =
    let input = c.args.input.now in
    adds_no_init input c.args.placing.now c.args.bodies.now.items
    (no_init input c.init_memory.result (c.init_memory.ensures input c.requires.bindings.indices)
    (c.is_none.ensures ∙ ap not c.if-is_none.true))

pub returns-in-None-clause-ok : goal.returns-in-None-clause-ok
returns-in-None-clause-ok c =
    let input = c.args.input.now in
    let g = c.args.placing.now in
    adds_no_init input g c.args.bodies.now.items (no_flag c.flag_is_where_memory_is_filled.ensures input g c.requires.placed c.in-None.is)

pub returns-in_err-body-clause-err : goal.returns-in_err-body-clause-err
returns-in_err-body-clause-err c =
    let residual = c.from_residual in
    let p = err_from_is_err_and residual.result residual.ensures.1 in
    let input = c.args.input.now in
    let g = c.args.placing.now in
    let i = init_index input c.init_memory.result (c.init_memory.ensures input c.requires.bindings.indices)
    (c.is_none.ensures ∙ ap not c.if-is_none.false) in
    rw (p.1, p.2) (init_refused input g i.0 c.in_err-body.field-0.0 i.1 c.in_err-body.ensures.err)

pub returns-clause-ok : goal.returns-clause-ok
returns-clause-ok c =
    let input = c.args.input.now in
    let g = c.args.placing.now in
    let i = init_index input c.init_memory.result (c.init_memory.ensures input c.requires.bindings.indices)
    (c.is_none.ensures ∙ ap not c.if-is_none.false) in
    adds_init input g i.0 c.in_ok-body.body.items c.args.bodies.now.items c.push_made.new.bodies.items i.1
    c.in_ok-body.ensures.ok c.in_ok-push_made.ensures
