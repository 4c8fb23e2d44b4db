use Rattle.std.proofs.Common.{◌∙◌, Option, subst}
use Rattle.wl_check.specs.Difference.{IsDifference, IsSomeListing}
use Rattle.wl_check.specs.declared.difference.Difference.{Difference}
use Rattle.wl_plan.specs.PlanLines.{lines_of}
use Rattle.wildplan.proofs.CheckLaws.{plan_is, told}
use Rattle.wildplan.proofs.check.check_listing.Goals as goal

pub first_difference-requires-clause-want : goal.first_difference-requires-clause-want
first_difference-requires-clause-want c =
    let plan = c.args.plan.now in
    (lines_of plan, plan_is plan c.deref.result.now (c.in_ok-want.ensures.fits c.requires) (c.deref.ensures.value ∙ c.in_ok-want.ensures.text))

pub returns-in-None-clause-verdict : goal.returns-in-None-clause-verdict
returns-in-None-clause-verdict c =
    let plan = c.args.plan.now in
    let want = plan_is plan c.deref.result.now (c.in_ok-want.ensures.fits c.requires) (c.deref.ensures.value ∙ c.in_ok-want.ensures.text) in
    let found : IsSomeListing c.args.text.now = c.in-Ok.ensures.listing in
    told plan c.args.text.now found.0 found.1
    (subst (λ (d : Option Difference). IsDifference found.0 (lines_of plan) d) c.in-None.is (c.in_ok-first_difference.ensures found.0 (lines_of plan) found.1 want))

pub returns-clause-verdict : goal.returns-clause-verdict
returns-clause-verdict c =
    let plan = c.args.plan.now in
    let want = plan_is plan c.deref.result.now (c.in_ok-want.ensures.fits c.requires) (c.deref.ensures.value ∙ c.in_ok-want.ensures.text) in
    let found : IsSomeListing c.args.text.now = c.in-Ok.ensures.listing in
    (found.0, found.1, subst (λ (d : Option Difference). IsDifference found.0 (lines_of plan) d) c.in-Some.is (c.in_ok-first_difference.ensures found.0 (lines_of plan) found.1 want))
