use Rattle.std.proofs.Common.{◌∙◌, not, ap}
use Rattle.std.proofs.lemmas.Result.{err_from_is_err_and}
use Rattle.wl_symbols.specs.declared.linker_symbol.WasmLinkerSymbol.TheVariants.{InitTls}
use Rattle.wl_plan.proofs.FunctionLaws.{no_index}
use Rattle.wl_plan.proofs.MadeBodyLaws.{adds_no_tls, adds_tls, no_base, tls_index, tls_refused}
use Rattle.wl_plan.proofs.bodies.push_init_tls.Goals as goal

pub returns-then-is_none-clause-ok : goal.returns-then-is_none-clause-ok
returns-then-is_none-clause-ok c =
    let input = c.args.sources.now.book.now.input.now in
    adds_no_tls input c.args.sources.now.book.now.placing.now c.args.bodies.now.items
    (no_index input InitTls c.index.result (c.index.ensures input c.requires.sources.bindings.indices)
    (c.is_none.ensures ∙ ap not c.if-is_none.true))

pub returns-in-None-clause-ok : goal.returns-in-None-clause-ok
returns-in-None-clause-ok c =
    let input = c.args.sources.now.book.now.input.now in
    adds_no_tls input c.args.sources.now.book.now.placing.now c.args.bodies.now.items
    (no_base input (c.in-None.ensures input c.requires.sources.bindings.indices))

pub returns-in_err-body-clause-err : goal.returns-in_err-body-clause-err
returns-in_err-body-clause-err c =
    let residual = c.from_residual in
    let p = err_from_is_err_and residual.result residual.ensures.1 in
    let input = c.args.sources.now.book.now.input.now in
    let g = c.args.sources.now.book.now.placing.now in
    let i = tls_index input c.index.result (c.index.ensures input c.requires.sources.bindings.indices)
    (c.is_none.ensures ∙ ap not c.if-is_none.false) in
    rw (p.1, p.2) (tls_refused input g i.0 c.in_err-body.field-0.0 i.1 c.in_err-body.ensures.err)

pub returns-clause-ok : goal.returns-clause-ok
returns-clause-ok c =
    let input = c.args.sources.now.book.now.input.now in
    let g = c.args.sources.now.book.now.placing.now in
    let i = tls_index input c.index.result (c.index.ensures input c.requires.sources.bindings.indices)
    (c.is_none.ensures ∙ ap not c.if-is_none.false) in
    adds_tls input g i.0 c.in_ok-body.body.items c.args.bodies.now.items c.push_made.new.bodies.items i.1
    c.in_ok-body.ensures.ok c.in_ok-push_made.ensures
