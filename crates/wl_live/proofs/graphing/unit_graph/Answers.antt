use Rattle.std.proofs.Common.{◌≡◌, ◌∙◌, List, ap}
use Rattle.wl_reach.specs.declared.graph.Edge.{Edge}
use Rattle.wl_symbols.specs.Units.{units_of}
use Rattle.wl_symbols.specs.declared.units.UnitCounts.{UnitCounts}
use Rattle.wl_live.specs.Facts.{Facts, AreAllFacts}
use Rattle.wl_live.specs.Laying.{all_edges}
use Rattle.wl_live.specs.Table.{Reference, references, found, edge_of}
use Rattle.wl_live.proofs.FactLaws.{references-one}
use Rattle.wl_live.proofs.GraphLaws.{graph_is}
use Rattle.wl_live.proofs.graphing.unit_graph.Goals as goal

pub returns : goal.returns
returns c =
    let facts : List Facts = c.in_ok-facts.facts.items in
    let all : AreAllFacts c.args.symbols.now.objects facts = rw c.files.ensures at c.in_ok-facts.ensures in
    let ns : List UnitCounts = units_of c.args.symbols.now.objects in
    let edges = rw c.deref.ensures.value at c.in_ok-edges.ensures in
    record {
      graph = graph_is c.numbers_are_one.ensures.one c.args.symbols.now c.args.numbers.now facts _ c.requires all
          edges
          (rw (c.deref-2.ensures.value, c.in_ok-roots.ensures) at c.in_ok-roots-2.ensures);
      table = λ others same.
          edges
          ∙ (ap (λ (l : List UnitCounts). all_edges c.args.symbols.now l facts) c.requires
          ∙ ap (λ (refs : List Reference). found (edge_of ns) refs) (references-one c.numbers_are_one.ensures.one c.args.symbols.now ns 0 c.args.symbols.now.objects facts others all same));
    }
