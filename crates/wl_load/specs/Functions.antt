-- What is kept of a function beside its code.
use Rattle.std.specs.Prelude.{◌≡◌, Bool, List}
use Rattle.wl_ops.specs.declared.op.Op.{Op}
use Rattle.wl_load.specs.declared.code.LocalRun.{LocalRun}
use Rattle.wl_load.specs.declared.instruction.Instruction.{Instruction}
use Rattle.wl_load.specs.Values.{are_integer_runs}
use Rattle.wl_load.specs.Resolving.{IsPrepared}

-- whether its locals are integers is known, and its operators are resolved
pub record IsReady (locals : List LocalRun) (has_integers : Bool) (ops : List Op)
    (known : List Instruction) : Type 0 where
  pub integers : has_integers ≡ are_integer_runs locals
  pub prepared : IsPrepared ops known
