use Rattle.std.proofs.Common.{◌<◌, ap, arith, get_or, length, List, Vec, Global, subst}
use Rattle.std.proofs.lemmas.Option.{slice_get-get_or}
use Rattle.std.proofs.lemmas.Result.{IfOk-weaker}
use Rattle.wl_reach.specs.Graph.{HasEdges}
use Rattle.wl_reach.specs.declared.graph.Edge.{Edge}
use Rattle.wl_symbols.specs.Units.{units_of, total_of}
use Rattle.wl_symbols.specs.declared.units.LinkUnit.{LinkUnit}
use Rattle.wl_why.specs.BreadthFirst.{IsBreadthFirst}
use Rattle.wl_why.specs.Certificate.{IsValid}
use Rattle.wl_why.specs.Explaining.{AreVisitSteps}
use Rattle.wl_why.specs.Walk.{IsWalk, IsInOrder}
use Rattle.wl_why.specs.declared.certificate.Step.{Step}
use Rattle.wl_why.specs.declared.walk.Visit.{Visit}
use Rattle.wl_why.proofs.Numbering.{Numbering}
use Rattle.wl_why.proofs.UnitLaws.{length-all}
use Rattle.wl_why.proofs.WalkLaws.{node_here}
use Rattle.wl_why.proofs.ExplainLaws.{walk_valid, walk_order}
use Rattle.wl_why.proofs.explaining.traced_steps.Goals as goal

pub visit_steps-requires : goal.visit_steps-requires
visit_steps-requires c = λ k d lt.
    let visits : List Visit = c.deref.result.now in
    let walk : IsWalk c.in_ok-graph.graph c.roots.result.now visits = rw (← c.deref.ensures.value) at c.in_ok-visits.ensures.walk in
    let small : (get_or visits k d).node < length c.in_ok-graph.graph = walk.nodes k (get_or visits k d).node (node_here visits k (get_or visits k d) (slice_get-get_or visits k d lt)) in
    omega (arith, small, c.in_ok-graph.ensures.nodes, c.total.ensures, ap length c.requires.units, length-all (units_of c.args.symbols.now.objects), ap total_of c.requires.numbers)

pub returns-clause-valid : goal.returns-clause-valid
returns-clause-valid c =
    let numbering : Numbering = record { below = c.units_are_numbered.ensures.below; own = c.units_are_numbered.ensures.own; each = c.units_are_numbered.ensures.each; roots = c.units_are_numbered.ensures.roots } in
    let visits : List Visit = c.deref.result.now in
    let edges : HasEdges c.in_ok-links.links.edges c.in_ok-graph.graph = subst (λ (es : List Edge). HasEdges es c.in_ok-graph.graph) c.edges.ensures c.in_ok-graph.ensures.edges in
    let walk : IsWalk c.in_ok-graph.graph c.in_ok-links.links.roots visits = rw (← c.deref.ensures.value, c.roots.ensures) at c.in_ok-visits.ensures.walk in
    IfOk-weaker {X = Vec Step Global} c.visit_steps.result (λ v. AreVisitSteps c.args.units.now visits v.items) (λ v. IsValid c.args.symbols.now v.items)
    (λ v zip.
    walk_valid numbering c.args.symbols.now c.in_ok-links.links c.in_ok-graph.graph visits v.items c.requires.collected c.in_ok-links.ensures.graph edges walk
    (subst (λ (us : List LinkUnit). AreVisitSteps us visits v.items) c.requires.units zip)) c.visit_steps.ensures

pub returns-clause-order : goal.returns-clause-order
returns-clause-order c =
    let visits : List Visit = c.deref.result.now in
    let edges : HasEdges c.in_ok-links.links.edges c.in_ok-graph.graph = subst (λ (es : List Edge). HasEdges es c.in_ok-graph.graph) c.edges.ensures c.in_ok-graph.ensures.edges in
    let order : IsInOrder c.in_ok-graph.graph c.in_ok-links.links.roots visits = rw (← c.deref.ensures.value, c.roots.ensures) at c.in_ok-visits.ensures.order in
    IfOk-weaker {X = Vec Step Global} c.visit_steps.result (λ v. AreVisitSteps c.args.units.now visits v.items) (λ v. IsBreadthFirst c.args.symbols.now v.items)
    (λ v zip.
    walk_order c.args.symbols.now c.in_ok-links.links c.in_ok-graph.graph visits v.items c.in_ok-links.ensures.graph edges order
    (subst (λ (us : List LinkUnit). AreVisitSteps us visits v.items) c.requires.units zip)) c.visit_steps.ensures
