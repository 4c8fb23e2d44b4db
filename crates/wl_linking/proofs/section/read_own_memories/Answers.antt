use Rattle.wl_linking.proofs.section.read_own_memories.Goals as goal

pub returns : goal.returns
returns c = rw (← c.has_memory.ensures) c.read_memories.ensures.reads
