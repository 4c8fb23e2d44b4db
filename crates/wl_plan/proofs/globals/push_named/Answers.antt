use Rattle.std.proofs.Common.{◌∙◌, sym, ap, flat_map}
use Rattle.std.proofs.lemmas.Result.{err_from_is_err_and}
use Rattle.wl_linking.proofs.StepLaws.{refuses_memory}
use Rattle.wl_symbols.specs.declared.linker_symbol.WasmLinkerSymbol.{WasmLinkerSymbol}
use Rattle.wl_bind.specs.Made.{is_made}
use Rattle.wl_plan.specs.steps.Globals.{IsPartFault, named_part}
use Rattle.wl_plan.proofs.GlobalParts.{adds_all_flat, adds_flat, adds_if_made, adds_none, adds_unmade, refuses_flat, refuses_made}
use Rattle.wl_plan.proofs.globals.push_named.Goals.{then-is_made+in_ok-start+in_ok-push_made, else-is_made}
use Rattle.wl_plan.proofs.globals.push_named.Goals as goal

pub loop-named-init : goal.loop-named-init
loop-named-init c = adds_none c.args.sources.now c.args.globals.now.items

pub loop-named-preserved : goal.loop-named-preserved
loop-named-preserved c =
    let s = c.args.sources.now in
    let input = s.book.now.input.now in
    let names = c.args.names.now in
    let i = c.loop-named.named-index in
    let tells = c.is_made.ensures ∙ ap (λ (m : WasmLinkerSymbol). is_made input m) c.made.ensures in
    elim c.if-is_made.branch [
      | then-is_made+in_ok-start+in_ok-push_made w ↦
          rw w.globals-is
          (adds_flat s (named_part input) names i _ c.loop-named-test.true c.loop-named.invariant
          (adds_if_made s _ w.in_ok-start.start _ _ (sym tells ∙ w.if-is_made.true)
          w.in_ok-start.ensures w.in_ok-push_made.ensures))
      | else-is_made w ↦
          rw w.globals-is
          (adds_flat s (named_part input) names i _ c.loop-named-test.true c.loop-named.invariant
          (adds_unmade s _ _ (sym tells ∙ w.if-is_made.false)))
    ]

pub returns-in_err-start-clause-err : goal.returns-in_err-start-clause-err
returns-in_err-start-clause-err c =
    let p = err_from_is_err_and c.from_residual.result c.from_residual.ensures.1 in
    let s = c.args.sources.now in
    let input = s.book.now.input.now in
    let names = c.args.names.now in
    let i = c.loop-named.named-index in
    let tells = c.is_made.ensures ∙ ap (λ (m : WasmLinkerSymbol). is_made input m) c.made.ensures in
    rw (p.1, p.2)
    (refuses_flat s (named_part input) names i _ c.loop-named-test.true
    (refuses_made s _ c.in_err-start.field-0.0 (sym tells ∙ c.if-is_made.true) c.in_err-start.ensures))

pub returns-in_err-push_made-clause-err : goal.returns-in_err-push_made-clause-err
returns-in_err-push_made-clause-err c =
    let residual = c.from_residual-in_err-push_made in
    let p = err_from_is_err_and residual.result residual.ensures.1 in
    let s = c.args.sources.now in
    rw p.1 (refuses_memory
    (IsPartFault s (flat_map (named_part s.book.now.input.now) c.args.names.now)) p.0 p.2)

pub returns-clause-ok : goal.returns-clause-ok
returns-clause-ok c =
    let s = c.args.sources.now in
    adds_all_flat s (named_part s.book.now.input.now) c.args.names.now
    c.loop-named.named-index c.loop-named-test.false c.loop-named.invariant
