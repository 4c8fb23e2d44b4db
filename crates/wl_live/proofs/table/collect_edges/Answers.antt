use Rattle.std.proofs.Common.{◌≡◌, ◌++◌, [], ◌∙◌, ap, sym, append-nil, List}
use Rattle.std.specs.List.{flat_map}
use Rattle.wl_live.specs.Mentions.{mentions_left}
use Rattle.wl_live.specs.Laying.{mention_edges}
use Rattle.wl_live.specs.declared.mentions.Mention.{Mention}
use Rattle.wl_live.proofs.TableLaws.{edges_mentioned}
use Rattle.wl_live.proofs.table.collect_edges.Goals as goal

pub returns : goal.returns
returns c =
    let link = c.args.symbols.now in
    let ns = c.args.numbers.now in
    let list = c.loop-mention.list.items in
    let done : mentions_left c.loop-mention.mention-iterator ≡ [] = c.in-None.ensures.steps.0 in
    sym (append-nil list)
    ∙ (ap (λ (ms : List Mention). list ++ flat_map (mention_edges link ns) ms) (sym done)
    ∙ (c.loop-mention.invariant ∙ edges_mentioned link ns c.args.facts.now))
