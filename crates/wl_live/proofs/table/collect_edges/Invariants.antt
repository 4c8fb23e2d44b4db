use Rattle.std.proofs.Common.{◌≡◌, ◌++◌}
use Rattle.std.specs.List.{flat_map}
use Rattle.wl_live.specs.Mentions.{all_mentions, mentions_left}
use Rattle.wl_live.specs.Laying.{mention_edges}
use Rattle.wl_live.proofs.table.collect_edges.Given as goal

abbrev pub invariant-loop-mention : goal.invariant-loop-mention
invariant-loop-mention l = l.list.items ++ flat_map (mention_edges l.symbols l.numbers) (mentions_left l.mention-iterator) ≡ flat_map (mention_edges l.symbols l.numbers) (all_mentions l.facts)
