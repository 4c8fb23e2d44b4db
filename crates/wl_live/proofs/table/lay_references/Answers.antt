use Rattle.std.proofs.Common.{◌≡◌, [], ◌∙◌, ap, sym, subst, rules, length, List, ℕ}
use Rattle.std.specs.List.{flat_map}
use Rattle.wl_reach.specs.Graph.{HasRoom, graph_of}
use Rattle.wl_reach.specs.declared.graph.Edge.{Edge}
use Rattle.wl_symbols.specs.Units.{total_of}
use Rattle.wl_live.specs.Mentions.{all_mentions, mentions_left}
use Rattle.wl_live.specs.Laying.{all_edges, mention_edges, IsLaying}
use Rattle.wl_live.specs.Table.{references}
use Rattle.wl_live.specs.declared.mentions.Mention.{Mention}
use Rattle.wl_live.proofs.TableLaws.{edges_mentioned, laying_begins, laying_ends}
use Rattle.wl_live.proofs.table.lay_references.Goals as goal

pub loop-mention-init : goal.loop-mention-init
loop-mention-init c =
    let link = c.args.symbols.now in
    let ns = c.args.numbers.now in
    let facts = c.args.facts.now in
    let table = c.in_ok-builder.builder in
    let all = all_edges link ns facts in
    let first : mentions_left c.into_iter-mention-iterator.result ≡ all_mentions facts = search rules in
    let same : table.rooms ≡ c.args.rooms = c.in_ok-builder.ensures.rooms in
    let begun : IsLaying all all table =
    laying_begins ns (references link ns facts) table (ap (λ (l : List ℕ). length l) same ∙ c.requires.nodes)
    (subst (λ (l : List ℕ). HasRoom l all) (sym same) c.requires.room)
    (c.in_ok-builder.ensures.graph ∙ ap (λ (l : List ℕ). graph_of (length l) []) (sym same)) in
    record {
      rooms = same;
      laying = subst (λ (ms : List Mention). IsLaying all (flat_map (mention_edges link ns) ms) table) (sym first)
          (subst (λ (es : List Edge). IsLaying all es table) (sym (edges_mentioned link ns facts)) begun);
    }

pub lay_edges-requires : goal.lay_edges-requires
lay_edges-requires c =
    let link = c.args.symbols.now in
    let ns = c.args.numbers.now in
    let at = c.loop-mention in
    let all = all_edges link ns c.args.facts.now in
    (all, flat_map (mention_edges link ns) (mentions_left c.next.new.self), subst (λ (ms : List Mention). IsLaying all (flat_map (mention_edges link ns) ms) at.builder) c.in-Some.ensures.steps at.invariant.laying)

pub loop-mention-preserved : goal.loop-mention-preserved
loop-mention-preserved c =
    let link = c.args.symbols.now in
    let ns = c.args.numbers.now in
    let at = c.loop-mention in
    let all = all_edges link ns c.args.facts.now in
    record {
      rooms = c.lay_edges.ensures.rooms ∙ at.invariant.rooms;
      laying = c.lay_edges.ensures.laid all (flat_map (mention_edges link ns) (mentions_left c.next.new.self))
          (subst (λ (ms : List Mention). IsLaying all (flat_map (mention_edges link ns) ms) at.builder) c.in-Some.ensures.steps at.invariant.laying);
    }

pub returns : goal.returns
returns c =
    let link = c.args.symbols.now in
    let ns = c.args.numbers.now in
    let at = c.loop-mention in
    let all = all_edges link ns c.args.facts.now in
    let size : length at.builder.rooms ≡ total_of ns = ap (λ (l : List ℕ). length l) at.invariant.rooms ∙ c.requires.nodes in
    let whole : IsLaying all [] at.builder = subst (λ (ms : List Mention). IsLaying all (flat_map (mention_edges link ns) ms) at.builder) c.in-None.ensures.steps.0 at.invariant.laying in
    c.finish.ensures ∙ (laying_ends all at.builder whole ∙ ap (λ (n : ℕ). graph_of n all) size)
