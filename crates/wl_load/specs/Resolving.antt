-- Operators as they are run: what they name is read once, and with it where the blocks end that
-- they open.
use Rattle.std.specs.Prelude.{◌≡◌, ◌≤◌, ℕ, suc, ℤ, true, false, length, slice_get, List, [], ◌∷◌, Option, Some, None, option_map, Result, Ok, Err}
use Rattle.wl_bytes.specs.Parse.{◌>>=◌}
use Rattle.wl_bytes.specs.declared.reader.TheConstants.{MAX_LEN}
use Rattle.wl_ops.specs.declared.op.Op.{Op}
use Rattle.wl_numeric.specs.declared.operation.Computation.{Computation}
use Rattle.wl_numeric.specs.declared.operation.Load.{Load}
use Rattle.wl_numeric.specs.declared.operation.Store.{Store}
use Rattle.wl_numeric.specs.Table.{computation_of, load_of, store_of, IsReadable, IsWritable}
use Rattle.wl_numeric.specs.Memory.{offset_in as access_offset_in}
use Rattle.wl_load.specs.declared.stop.Stop.{Stop}
use Rattle.wl_load.specs.declared.stop.Stop.TheVariants.{Foreign as ForeignStop, Invalid as InvalidStop}
use Rattle.wl_load.specs.declared.blocks.Jump.{Jump}
use Rattle.wl_load.specs.declared.operation.Operation.{Operation}
use Rattle.wl_load.specs.declared.operation.ControlOperator.{ControlOperator}
use Rattle.wl_load.specs.declared.operation.StackOperator.{StackOperator}
use Rattle.wl_load.specs.declared.operation.StoreOperator.{StoreOperator}
use Rattle.wl_load.specs.declared.operation.Operation.TheVariants.{Control, Stack as StackOf, Storage as StorageOf}
use Rattle.wl_load.specs.declared.operation.ControlOperator.TheVariants.{Unreachable as UnreachableOp, Nop as NopOp, Block as BlockOp, Loop as LoopOp, If as IfOp, Else as ElseOp, End as EndOp, Branch as BranchOp, BranchIf as BranchIfOp, BranchTable as BranchTableOp, Return as ReturnOp, Call as CallOp, CallIndirect as CallIndirectOp}
use Rattle.wl_load.specs.declared.operation.StackOperator.TheVariants.{Drop as DropOp, Select as SelectOp, LocalGet as LocalGetOp, LocalSet as LocalSetOp, LocalTee as LocalTeeOp, ConstI32 as ConstI32Op, ConstI64 as ConstI64Op}
use Rattle.wl_load.specs.declared.operation.StoreOperator.TheVariants.{GlobalGet as GlobalGetOp, GlobalSet as GlobalSetOp, MemorySize as MemorySizeOp, MemoryGrow as MemoryGrowOp, MemoryInit as MemoryInitOp, DataDrop as DataDropOp, MemoryCopy as MemoryCopyOp, MemoryFill as MemoryFillOp, Notify as NotifyOp, Wait as WaitOp, AtomicStore as AtomicStoreOp, CompareExchange as CompareExchangeOp}
use Rattle.wl_load.specs.declared.instruction.Instruction.{Instruction}
use Rattle.wl_load.specs.declared.instruction.Instruction.TheVariants.{Compute, LoadValue, StoreValue, Unreachable, Nop, Open, OpenIf, EndThen, EndBlock, Branch, BranchIf, BranchTable, Return, Call, CallIndirect, DropOperand, Select, LocalGet, LocalSet, LocalTee, Constant, Storage, Foreign, Invalid}
use Rattle.wl_load.specs.declared.instruction.StorageInstruction.{StorageInstruction}
use Rattle.wl_load.specs.declared.instruction.StorageInstruction.TheVariants.{GlobalGet, GlobalSet, MemorySize, MemoryGrow, MemoryInit, DataDrop, MemoryCopy, MemoryFill, Notify, Wait, AtomicStore, CompareExchange}
use Rattle.wl_load.specs.Blocks.{ending_by, ending_of}
use Rattle.wl_load.specs.Table.{operation_of}
use Rattle.wl_load.specs.Immediates.{index_in, index_and_first_in, memory_in, memories_in, offset_in, word_in, long_in, block_type_in, labels_in}

-- ---- an operator of the table

-- the end of the block that is opened
abbrev pub end_in : Option Jump → Result Jump Stop
end_in None = Err InvalidStop
end_in (Some jump) = Ok jump

-- blocks, branches and calls; a loop begins anew at the place after the operator
abbrev pub control_by : Option Jump → ℕ → ControlOperator → List ℤ → Result Instruction Stop
control_by jump place UnreachableOp zs = Ok Unreachable
control_by jump place NopOp zs = Ok Nop
control_by jump place BlockOp zs =
    block_type_in zs >>= λ type. end_in jump >>= λ j.
    Ok (Open (record { block_type = type; is_loop = false; next = j.behind }))
control_by jump place LoopOp zs =
    block_type_in zs >>= λ type.
    Ok (Open (record { block_type = type; is_loop = true; next = place }))
control_by jump place IfOp zs =
    block_type_in zs >>= λ type. end_in jump >>= λ j. Ok (OpenIf type j)
control_by jump place ElseOp zs = Ok EndThen
control_by jump place EndOp zs = Ok EndBlock
control_by jump place BranchOp zs = index_in zs >>= λ n. Ok (Branch n)
control_by jump place BranchIfOp zs = index_in zs >>= λ n. Ok (BranchIf n)
control_by jump place BranchTableOp zs = Ok (BranchTable (labels_in zs))
control_by jump place ReturnOp zs = Ok Return
control_by jump place CallOp zs = index_in zs >>= λ f. Ok (Call f)
control_by jump place CallIndirectOp zs = index_and_first_in zs >>= λ t. Ok (CallIndirect t)

-- operands, locals and constants
abbrev pub stack_by : StackOperator → List ℤ → Result Instruction Stop
stack_by DropOp zs = Ok DropOperand
stack_by SelectOp zs = Ok Select
stack_by LocalGetOp zs = index_in zs >>= λ i. Ok (LocalGet i)
stack_by LocalSetOp zs = index_in zs >>= λ i. Ok (LocalSet i)
stack_by LocalTeeOp zs = index_in zs >>= λ i. Ok (LocalTee i)
stack_by ConstI32Op zs = word_in zs >>= λ v. Ok (Constant v)
stack_by ConstI64Op zs = long_in zs >>= λ v. Ok (Constant v)

-- globals, memory and segments
abbrev pub storage_by : StoreOperator → List ℤ → Result StorageInstruction Stop
storage_by GlobalGetOp zs = index_in zs >>= λ i. Ok (GlobalGet i)
storage_by GlobalSetOp zs = index_in zs >>= λ i. Ok (GlobalSet i)
storage_by MemorySizeOp zs = memory_in zs >>= λ _. Ok MemorySize
storage_by MemoryGrowOp zs = memory_in zs >>= λ _. Ok MemoryGrow
storage_by MemoryInitOp zs = index_and_first_in zs >>= λ k. Ok (MemoryInit k)
storage_by DataDropOp zs = index_in zs >>= λ k. Ok (DataDrop k)
storage_by MemoryCopyOp zs = memories_in zs >>= λ _. Ok MemoryCopy
storage_by MemoryFillOp zs = memory_in zs >>= λ _. Ok MemoryFill
storage_by NotifyOp zs = offset_in zs >>= λ offset. Ok (Notify offset)
storage_by WaitOp zs = offset_in zs >>= λ offset. Ok (Wait offset)
storage_by AtomicStoreOp zs = offset_in zs >>= λ offset. Ok (AtomicStore offset)
storage_by CompareExchangeOp zs = offset_in zs >>= λ offset. Ok (CompareExchange offset)

abbrev pub row_by : Option Jump → ℕ → Option Operation → List ℤ → Result Instruction Stop
row_by jump place None zs = Err ForeignStop
row_by jump place (Some (Control c)) zs = control_by jump place c zs
row_by jump place (Some (StackOf c)) zs = stack_by c zs
row_by jump place (Some (StorageOf c)) zs = storage_by c zs >>= λ i. Ok (Storage i)

-- what can't be resolved stops when it is reached
abbrev pub settled : Result Instruction Stop → Instruction
settled (Ok i) = i
settled (Err InvalidStop) = Invalid
settled (Err stop) = Foreign

-- ---- any operator

-- one that computes, and else the other
abbrev pub computation_or : Option Computation → Instruction → Instruction
computation_or None other = other
computation_or (Some f) other = Compute f

-- a load with an offset, and else the other
abbrev pub load_or : Option Load → Option ℕ → Instruction → Instruction
load_or None offset other = other
load_or (Some l) None other = other
load_or (Some l) (Some offset) other = LoadValue l offset

-- a store with an offset, and else the other
abbrev pub store_or : Option Store → Option ℕ → Instruction → Instruction
store_or None offset other = other
store_or (Some s) None other = other
store_or (Some s) (Some offset) other = StoreValue s offset

-- An operator as it is run, by the end of the block that it opens and the place after it.
unfoldable pub resolved : Option Jump → ℕ → Op → Instruction
resolved jump place op =
    computation_or (computation_of op.code)
    (load_or (load_of op.code) (access_offset_in op.args)
    (store_or (store_of op.code) (access_offset_in op.args)
    (settled (row_by jump place (operation_of op) op.args))))

-- its loads and stores are among those of the table
abbrev pub CanAccess : Instruction → Type 0
CanAccess (LoadValue l offset) = IsReadable l
CanAccess (StoreValue s offset) = IsWritable s
CanAccess i = Unit {0}

-- ---- all operators

-- from a place on
abbrev pub instructions : ℕ → List Op → List Instruction
instructions place [] = []
instructions place (op ∷ ops) =
    resolved (ending_by op ops (suc place)) (suc place) op ∷ instructions (suc place) ops

-- the one at a place
abbrev pub instruction_at : List Op → ℕ → Option Instruction
instruction_at ops place =
    option_map (λ (op : Op). resolved (ending_of op ops place) (suc place) op) (slice_get ops place)

-- The operators are resolved, and few.
pub record IsPrepared (ops : List Op) (known : List Instruction) : Type 0 where
  pub each : known ≡ instructions 0 ops
  pub few : length ops ≤ MAX_LEN
