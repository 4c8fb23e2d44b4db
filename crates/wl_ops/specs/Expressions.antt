-- Expressions that take the index of a global or of a function (core specification, "Constant
-- Expressions").
use Rattle.std.specs.Prelude.{◌≡◌, ◌==◌, ◌||◌, Bool, true, false}
use Rattle.wl_bytes.specs.Cursor.{Cursor}
use Rattle.wl_bytes.specs.Parse.{Takes}
use Rattle.wl_module.specs.declared.constants.ConstOperator.{ConstOperator}
use Rattle.wl_module.specs.declared.constants.ConstOperator.TheVariants.{GlobalGet, RefFunc}
use Rattle.wl_ops.specs.declared.op.Op.{Op}
use Rattle.wl_ops.specs.Operators.{IsTaken}

-- `global.get` and `ref.func`
abbrev pub is_reference : Op → Bool
is_reference op = op.code == 0x23 || op.code == 0xd2

-- among the operators that stand here is one of these: it is the next one, or follows it
pub data HasReference : Cursor → Type 0 where
  here : (op : Op) (from to : Cursor) → Takes IsTaken op from to → is_reference op ≡ true
      → HasReference from
  behind : (op : Op) (from to : Cursor) → Takes IsTaken op from to → HasReference to
      → HasReference from

-- the operators of a constant expression that take such an index
abbrev pub takes_index : ConstOperator → Bool
takes_index GlobalGet = true
takes_index RefFunc = true
takes_index _ = false
