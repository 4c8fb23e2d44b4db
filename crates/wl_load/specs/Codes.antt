-- Functions that aren't the host's.
use Rattle.std.specs.Prelude.{ℕ, List}
use Rattle.wl_ops.specs.declared.op.Op.{Op}
use Rattle.wl_load.specs.declared.code.LocalRun.{LocalRun}

-- the number of its type, its locals but for the parameters, in runs of one at least, and its
-- operators
pub record Code : Type 0 where
  pub type_index : ℕ
  pub locals : List LocalRun
  pub ops : List Op
