use Rattle.std.proofs.Common.{◌≡◌, take}
use Rattle.wl_linking.specs.Parts.{segment_memories_of}
use Rattle.wl_linking.proofs.plain.segment_memories_of.Given as goal

abbrev pub invariant-loop-segment : goal.invariant-loop-segment
invariant-loop-segment l = l.memories.items ≡ segment_memories_of (take l.segment-index l.segments)
