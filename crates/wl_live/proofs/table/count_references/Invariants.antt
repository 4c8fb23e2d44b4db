use Rattle.std.proofs.Common.{◌≡◌, length}
use Rattle.std.specs.List.{flat_map}
use Rattle.wl_symbols.specs.Link.{Link}
use Rattle.wl_symbols.specs.Units.{total_of}
use Rattle.wl_live.specs.Mentions.{mentions_left}
use Rattle.wl_live.specs.Laying.{all_edges, mention_edges}
use Rattle.wl_live.proofs.TableLaws.{IsCounting}
use Rattle.wl_live.proofs.table.count_references.Given as goal

abbrev pub invariant-loop-mention : goal.invariant-loop-mention
invariant-loop-mention l = record {
  nodes : length l.rooms ≡ total_of l.numbers;
  counting : (link : Link) → IsCounting (all_edges link l.numbers l.facts) (flat_map (mention_edges link l.numbers) (mentions_left l.mention-iterator)) l.rooms;
}
