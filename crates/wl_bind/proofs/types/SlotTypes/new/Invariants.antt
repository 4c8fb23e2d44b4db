use Rattle.std.proofs.Common.{◌≡◌, ◌++◌, drop}
use Rattle.wl_bind.specs.BindingSteps.{slot_numbers}
use Rattle.wl_bind.proofs.types.SlotTypes.new.Given as goal

abbrev pub invariant-loop-file : goal.invariant-loop-file
invariant-loop-file l = l.rows ++ slot_numbers (drop l.file-index l.file-items) ≡ slot_numbers l.file-items
