use Rattle.std.proofs.Common.{◌≡◌, subst, sym}
use Rattle.wl_session.specs.After.{after}
use Rattle.wl_plan.specs.LinkPlan.{HasLinkFault, IsLinkPlan}
use Rattle.wl_plan.specs.Session.{Held, holding}
use Rattle.wl_plan.proofs.SessionLaws.{replaced_in_order}
use Rattle.wl_plan.proofs.session.replaced_sessions_are_planned_anew.Goals as goal

pub returns-clause-held : goal.returns-clause-held
returns-clause-held c = replaced_in_order

pub returns-clause-plans : goal.returns-clause-plans
returns-clause-plans c = λ old new done plan h.
    let same : new ≡ holding old (after old.objects done) = replaced_in_order old new done h in (
      subst (λ (x : Held). IsLinkPlan x.objects x.args plan) same,
      subst (λ (x : Held). IsLinkPlan x.objects x.args plan) (sym same),
    )

pub returns-clause-causes : goal.returns-clause-causes
returns-clause-causes c = λ old new done e h.
    let same : new ≡ holding old (after old.objects done) = replaced_in_order old new done h in (
      subst (λ (x : Held). HasLinkFault x.objects x.args e) same,
      subst (λ (x : Held). HasLinkFault x.objects x.args e) (sym same),
    )

pub returns-clause-one : goal.returns-clause-one
returns-clause-one c = λ old new done a b h p q.
    let same : new ≡ holding old (after old.objects done) = replaced_in_order old new done h in
    c.link_plan_or_fault.ensures.one (after old.objects done) old.args a b
    (subst (λ (x : Held). IsLinkPlan x.objects x.args a) same p) q

pub returns-clause-either : goal.returns-clause-either
returns-clause-either c = λ old new done plan e h p fault.
    let same : new ≡ holding old (after old.objects done) = replaced_in_order old new done h in
    c.link_plan_or_fault.ensures.either (after old.objects done) old.args plan e
    (subst (λ (x : Held). IsLinkPlan x.objects x.args plan) same p) fault
