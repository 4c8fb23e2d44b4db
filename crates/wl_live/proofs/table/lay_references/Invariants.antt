use Rattle.std.proofs.Common.{◌≡◌}
use Rattle.std.specs.List.{flat_map}
use Rattle.wl_live.specs.Mentions.{mentions_left}
use Rattle.wl_live.specs.Laying.{all_edges, mention_edges, IsLaying}
use Rattle.wl_live.proofs.table.lay_references.Given as goal

abbrev pub invariant-loop-mention : goal.invariant-loop-mention
invariant-loop-mention l = record {
  rooms : l.builder.rooms ≡ l.fn.rooms;
  laying : IsLaying (all_edges l.symbols l.numbers l.facts) (flat_map (mention_edges l.symbols l.numbers) (mentions_left l.mention-iterator)) l.builder;
}
