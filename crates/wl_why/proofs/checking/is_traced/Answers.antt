use Rattle.std.proofs.Common.{◌≡◌, ◌∙◌, ℕ, ◌<◌, Bool, List, Option, sym, ap, subst, get_or, length, All}
use Rattle.std.proofs.lemmas.Bool.{false≢true}
use Rattle.wl_reach.specs.declared.graph.Edge.{Edge}
use Rattle.wl_symbols.specs.Units.{units_of}
use Rattle.wl_live.specs.UnitGraph.{Graph}
use Rattle.wl_symbols.specs.declared.units.UnitCounts.{UnitCounts}
use Rattle.wl_why.specs.Marked.{with_marks}
use Rattle.wl_why.specs.Checking.{justified_by_root, justified_by_edge, AreJustified}
use Rattle.wl_why.specs.Places.{ArePlaces}
use Rattle.wl_why.proofs.Numbering.{Numbering}
use Rattle.wl_why.proofs.CheckLaws.{justified_marks, traced_valid, valid_roots, valid_edges, valid_justified}
use Rattle.wl_why.proofs.checking.is_traced.Goals as goal

pub returns-then-not-are_listed : goal.returns-then-not-are_listed
returns-then-not-are_listed c =
    let numbering : Numbering = record { below = c.units_are_numbered.ensures.below; own = c.units_are_numbered.ensures.own; each = c.units_are_numbered.ensures.each; roots = c.units_are_numbered.ensures.roots } in
    let places : ArePlaces (units_of c.args.symbols.now.objects) c.args.steps.now c.args.places.now = subst (λ (ns : List UnitCounts). ArePlaces ns c.args.steps.now c.args.places.now) c.requires.units c.requires.places in (
      λ f. absurd (false≢true f),
      λ valid.
          let all = valid_roots numbering c.args.symbols.now c.args.steps.now c.args.places.now c.in_ok-graph.graph c.requires.collected places c.in_ok-graph.ensures.graph valid in
          let here = subst (λ (ns : List ℕ). All (λ n. get_or c.args.places.now n 0 < length c.args.steps.now) ns) (sym c.roots.ensures) all in
          absurd (false≢true (sym c.if-not-are_listed.true ∙ c.are_listed.ensures.1 here)),
    )

pub returns-then-not-are_closed : goal.returns-then-not-are_closed
returns-then-not-are_closed c =
    let numbering : Numbering = record { below = c.units_are_numbered.ensures.below; own = c.units_are_numbered.ensures.own; each = c.units_are_numbered.ensures.each; roots = c.units_are_numbered.ensures.roots } in
    let places : ArePlaces (units_of c.args.symbols.now.objects) c.args.steps.now c.args.places.now = subst (λ (ns : List UnitCounts). ArePlaces ns c.args.steps.now c.args.places.now) c.requires.units c.requires.places in (
      λ f. absurd (false≢true f),
      λ valid.
          let all = valid_edges numbering c.args.symbols.now c.args.steps.now c.args.places.now c.in_ok-graph.graph c.requires.collected places c.in_ok-graph.ensures.graph valid in
          let here = subst (λ (es : List Edge). All (λ e. get_or c.args.places.now e.from 0 < length c.args.steps.now → get_or c.args.places.now e.to 0 < length c.args.steps.now) es) (sym c.edges.ensures) all in
          absurd (false≢true (sym c.if-not-are_closed.true ∙ c.are_closed.ensures.1 here)),
    )

pub returns : goal.returns
returns c =
    let numbering : Numbering = record { below = c.units_are_numbered.ensures.below; own = c.units_are_numbered.ensures.own; each = c.units_are_numbered.ensures.each; roots = c.units_are_numbered.ensures.roots } in
    let placed : ArePlaces (units_of c.args.symbols.now.objects) c.args.steps.now c.args.places.now = subst (λ (ns : List UnitCounts). ArePlaces ns c.args.steps.now c.args.places.now) c.requires.units c.requires.places in
    let graph : Graph = c.in_ok-graph.graph in
    let by_root : ℕ → Option ℕ = justified_by_root c.args.places.now c.args.steps.now in
    let by_edge : Edge → Option ℕ = justified_by_edge c.args.places.now c.args.steps.now in
    let listed = subst (λ (ns : List ℕ). All (λ n. get_or c.args.places.now n 0 < length c.args.steps.now) ns) c.roots.ensures (c.are_listed.ensures.0 c.if-not-are_listed.false) in
    let closed = subst (λ (es : List Edge). All (λ e. get_or c.args.places.now e.from 0 < length c.args.steps.now → get_or c.args.places.now e.to 0 < length c.args.steps.now) es) c.edges.ensures (c.are_closed.ensures.0 c.if-not-are_closed.false) in
    let roots : c.mark_roots.new.marks ≡ with_marks by_root c.in_ok-marks.marks graph.roots = c.mark_roots.ensures.marked ∙ ap (λ (ns : List ℕ). with_marks by_root c.in_ok-marks.marks ns) c.roots-2.ensures in
    let edges : c.mark_references.new.marks ≡ with_marks by_edge c.mark_roots.new.marks graph.edges = c.mark_references.ensures.marked ∙ ap (λ (es : List Edge). with_marks by_edge c.mark_roots.new.marks es) c.edges-2.ensures in
    let marks : c.mark_references.new.marks ≡ justified_marks c.args.places.now c.args.steps.now graph =
    edges ∙ ap (λ (m : List Bool). with_marks by_edge m graph.edges) (roots ∙ ap (λ (m : List Bool). with_marks by_root m graph.roots) c.in_ok-marks.ensures) in (
      λ t.
          traced_valid numbering c.args.symbols.now c.args.steps.now c.args.places.now graph c.requires.collected placed c.in_ok-graph.ensures.graph listed closed
          (subst (λ (m : List Bool). AreJustified c.args.steps.now m) marks (c.are_justified.ensures.0 t)),
      λ valid.
          c.are_justified.ensures.1
          (subst (λ (m : List Bool). AreJustified c.args.steps.now m) (sym marks)
          (valid_justified numbering c.args.symbols.now c.args.steps.now c.args.places.now graph c.requires.collected placed c.in_ok-graph.ensures.graph valid)),
    )
