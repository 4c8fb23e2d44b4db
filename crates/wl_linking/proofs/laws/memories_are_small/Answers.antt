use Rattle.wl_linking.proofs.BoundLaws.{memories_small}
use Rattle.wl_linking.proofs.laws.memories_are_small.Goals as goal

pub returns : goal.returns
returns c = memories_small
