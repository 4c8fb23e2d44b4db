use Rattle.std.proofs.Common.{◌≡◌, true, [], ◌∷◌, sym, ◌∙◌}
use Rattle.std.proofs.lemmas.Result.{err_from_is_err_and}
use Rattle.wl_data.specs.Layouts.{is_chosen}
use Rattle.wl_linking.proofs.StepLaws.{refuses_more}
use Rattle.wl_data.proofs.LayoutLaws.{passes_one, laid_one}
use Rattle.wl_data.proofs.layout.add.Goals as goal

pub returns-in_err-layout-clause-err : goal.returns-in_err-layout-clause-err
returns-in_err-layout-clause-err c =
    let p = err_from_is_err_and c.from_residual.result c.from_residual.ensures.1 in
    let e : is_chosen c.args.pass c.args.segment.now ≡ true = sym c.is_chosen.ensures ∙ c.if-not-is_chosen.false in
    rw (p.1, p.2) (refuses_more _ _ _ (λ x. (x.0, passes_one c.args.pass c.args.segment.now c.args.frontier.now e x.1)) c.in_err-layout.ensures.err)

pub returns-clause-ok : goal.returns-clause-ok
returns-clause-ok c =
    let e : is_chosen c.args.pass c.args.segment.now ≡ true = sym c.is_chosen.ensures ∙ c.if-not-is_chosen.false in
    let one = c.in_ok-layout.ensures.ok in
    (c.in_ok-layout.layout ∷ [], laid_one c.args.pass c.args.segment.now one.place c.args.frontier.now c.lay_one.new.frontier c.in_ok-layout.layout e one.stands one.laid, c.in_ok-push.ensures.items)
