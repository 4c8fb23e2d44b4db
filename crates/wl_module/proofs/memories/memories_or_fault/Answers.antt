use Rattle.wl_bytes.proofs.ListLaws.{exact}
use Rattle.wl_module.proofs.GlobalLaws.{memories_reading}
use Rattle.wl_module.proofs.memories.memories_or_fault.Goals as goal

pub returns : goal.returns
returns c = λ imported. exact (memories_reading imported)
