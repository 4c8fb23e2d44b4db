use Rattle.std.specs.List.{flat_map}
use Rattle.wl_live.specs.Mentions.{mentions_left}
use Rattle.wl_live.specs.Laying.{mention_references}
use Rattle.wl_live.specs.Table.{object_references}
use Rattle.wl_live.proofs.FollowedLaws.{Lists}
use Rattle.wl_live.proofs.graphing.references_in.Given as goal

abbrev pub invariant-loop-mention : goal.invariant-loop-mention
invariant-loop-mention l = Lists l.unit (object_references l.symbols l.numbers l.unit.object l.said) (flat_map (mention_references l.symbols l.numbers) (mentions_left l.mention-iterator)) l.list.items
