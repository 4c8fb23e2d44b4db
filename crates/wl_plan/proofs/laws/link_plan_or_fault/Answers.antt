use Rattle.std.proofs.Common.{List, subst, inl, inr}
use Rattle.wl_linking.specs.Object.{Object}
use Rattle.wl_symbols.specs.Link.{link_of}
use Rattle.wl_plan.specs.LinkPlan.{IsPlanOf}
use Rattle.wl_plan.proofs.UniqueFiles.{files_one, not_bad}
use Rattle.wl_plan.proofs.laws.link_plan_or_fault.Goals as goal

pub returns-clause-one : goal.returns-clause-one
returns-clause-one c = λ objects args a b p q.
    let same = files_one c.object_or_fault.ensures.one q.files p.files objects q.grammar p.grammar in
    c.plan_or_fault.ensures.one (link_of p.files args) a b p.planned
    (subst (λ (fs : List Object). IsPlanOf (link_of fs args) b) same q.planned)

pub returns-clause-either : goal.returns-clause-either
returns-clause-either c = λ objects args plan e p fault.
    elim fault [
      | inl bad ↦ not_bad c.object_or_fault.ensures.either p.files objects e p.grammar bad
      | inr f ↦
          let same = files_one c.object_or_fault.ensures.one p.files f.0 objects p.grammar f.1 in
          c.plan_or_fault.ensures.either (link_of f.0 args) plan e
          (subst (λ (fs : List Object). IsPlanOf (link_of fs args) plan) same p.planned) f.2
    ]
