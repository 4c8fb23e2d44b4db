use Rattle.std.proofs.Common.{◌≡◌, ◌∙◌, ap, sym, subst, rules, length, List, ℕ}
use Rattle.std.specs.List.{flat_map}
use Rattle.std.proofs.lemmas.List.{length-replicate}
use Rattle.wl_reach.specs.declared.graph.Edge.{Edge}
use Rattle.wl_live.specs.Mentions.{all_mentions, mentions_left}
use Rattle.wl_live.specs.Laying.{all_edges, mention_edges}
use Rattle.wl_live.specs.declared.mentions.Mention.{Mention}
use Rattle.wl_live.proofs.TableLaws.{IsCounting, counting_begins, counting_ends, counting_goes_on, edges_mentioned}
use Rattle.wl_live.proofs.table.count_references.Goals as goal

pub loop-mention-init : goal.loop-mention-init
loop-mention-init c =
    let ns = c.args.numbers.now in
    let facts = c.args.facts.now in
    let rooms = c.in_ok-rooms.rooms in
    let first : mentions_left c.into_iter-mention-iterator.result ≡ all_mentions facts = search rules in
    record {
      nodes = ap (λ (l : List ℕ). length l) c.in_ok-rooms.ensures ∙ (length-replicate c.total.result 0 ∙ c.total.ensures);
      counting = λ link.
          subst (λ (ms : List Mention). IsCounting (all_edges link ns facts) (flat_map (mention_edges link ns) ms) rooms) (sym first)
          (subst (λ (es : List Edge). IsCounting (all_edges link ns facts) es rooms) (sym (edges_mentioned link ns facts)) (counting_begins (all_edges link ns facts) rooms));
    }

pub loop-mention-preserved : goal.loop-mention-preserved
loop-mention-preserved c =
    let ns = c.args.numbers.now in
    let at = c.loop-mention in
    record {
      nodes = c.in_ok-add_room.ensures.nodes ∙ at.invariant.nodes;
      counting = λ link.
          let all = all_edges link ns c.args.facts.now in
          counting_goes_on all (mention_edges link ns c.in-Some.mention) (flat_map (mention_edges link ns) (mentions_left c.next.new.self)) at.rooms c.add_room.new.rooms
          (c.in_ok-add_room.ensures.room link)
          (subst (λ (ms : List Mention). IsCounting all (flat_map (mention_edges link ns) ms) at.rooms) c.in-Some.ensures.steps (at.invariant.counting link));
    }

pub returns-clause-room : goal.returns-clause-room
returns-clause-room c =
    let ns = c.args.numbers.now in
    let at = c.loop-mention in
    λ link.
    let all = all_edges link ns c.args.facts.now in
    counting_ends all at.rooms (subst (λ (ms : List Mention). IsCounting all (flat_map (mention_edges link ns) ms) at.rooms) c.in-None.ensures.steps.0 (at.invariant.counting link))
