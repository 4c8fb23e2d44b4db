use Rattle.wl_reloc.proofs.FaultLaws.{why}
use Rattle.wl_reloc.proofs.RefusalLaws.{refused, one, clear}
use Rattle.wl_reloc.proofs.laws.value_or_fault.Goals as goal

pub returns : goal.returns
returns c = record { why = why; refused = refused; one = one; clear = clear }
