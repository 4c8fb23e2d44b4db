use Rattle.wl_reloc.proofs.PointerLaws.{why, refused, one, clear}
use Rattle.wl_reloc.proofs.laws.pointer_or_fault.Goals as goal

pub returns : goal.returns
returns c = record { why = why; refused = refused; one = one; clear = clear }
