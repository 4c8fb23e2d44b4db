use Rattle.std.proofs.Common.{take}
use Rattle.wl_bytes.specs.declared.read_error.ReadError.{ReadError}
use Rattle.wl_live.specs.Faults.{HasSegmentNumberFault}
use Rattle.wl_live.proofs.faults.numbers_fault.Given as goal

abbrev pub invariant-loop-number : goal.invariant-loop-number
invariant-loop-number l = (e : ReadError) → HasSegmentNumberFault l.file l.body (take l.number-index l.numbers) e → ⊥
