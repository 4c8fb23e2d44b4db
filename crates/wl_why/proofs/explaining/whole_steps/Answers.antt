use Rattle.std.proofs.Common.{◌≡◌, ◌∙◌, ap, map, Vec, Global}
use Rattle.std.proofs.lemmas.Result.{IfOk-weaker}
use Rattle.wl_why.specs.BreadthFirst.{IsBreadthFirst}
use Rattle.wl_why.specs.Certificate.{IsValid}
use Rattle.wl_why.specs.Explaining.{plain_step}
use Rattle.wl_why.specs.declared.certificate.Step.{Step}
use Rattle.wl_why.proofs.Numbering.{Numbering}
use Rattle.wl_why.proofs.ExplainLaws.{plain_valid, plain_order}
use Rattle.wl_why.proofs.explaining.whole_steps.Goals as goal

pub returns-clause-valid : goal.returns-clause-valid
returns-clause-valid c =
    let numbering : Numbering = record { below = c.units_are_numbered.ensures.below; own = c.units_are_numbered.ensures.own; each = c.units_are_numbered.ensures.each; roots = c.units_are_numbered.ensures.roots } in
    IfOk-weaker {X = Vec Step Global} c.plain_steps.result (λ v. v.items ≡ map plain_step c.args.units.now) (λ v. IsValid c.args.symbols.now v.items)
    (λ v e. plain_valid numbering c.args.symbols.now v.items c.requires.off (e ∙ ap (map plain_step) c.requires.units)) c.plain_steps.ensures

pub returns-clause-order : goal.returns-clause-order
returns-clause-order c =
    let numbering : Numbering = record { below = c.units_are_numbered.ensures.below; own = c.units_are_numbered.ensures.own; each = c.units_are_numbered.ensures.each; roots = c.units_are_numbered.ensures.roots } in
    IfOk-weaker {X = Vec Step Global} c.plain_steps.result (λ v. v.items ≡ map plain_step c.args.units.now) (λ v. IsBreadthFirst c.args.symbols.now v.items)
    (λ v e. plain_order c.args.symbols.now v.items c.requires.off (plain_valid numbering c.args.symbols.now v.items c.requires.off (e ∙ ap (map plain_step) c.requires.units))) c.plain_steps.ensures
