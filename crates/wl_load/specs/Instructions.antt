-- What an operator does that is resolved: the same as by its first byte and immediates.
use Rattle.std.specs.Prelude.{ℕ, ◌+◌, if◌then◌else◌, length, List, [], ◌∷◌, Some, Result, Ok, Err}
use Rattle.wl_bytes.specs.Parse.{◌>>=◌}
use Rattle.wl_numeric.specs.declared.value.Value.{Value}
use Rattle.wl_numeric.specs.declared.value.Value.TheVariants.{I32}
use Rattle.wl_numeric.specs.declared.value.Width.TheVariants.{Bits32}
use Rattle.wl_numeric.specs.declared.value.TrapKind.TheVariants.{Unreachable as UnreachableTrap}
use Rattle.wl_numeric.specs.declared.operation.Computation.{Computation}
use Rattle.wl_numeric.specs.declared.operation.Load.{Load}
use Rattle.wl_numeric.specs.declared.operation.Store.{Store as StoreForm}
use Rattle.wl_numeric.specs.Operators.{computed_by}
use Rattle.wl_numeric.specs.Memory.{loaded_from, stored_to}
use Rattle.wl_numeric.specs.Signatures.{computation_signature, operand_widths, have_widths}
use Rattle.wl_load.specs.declared.stop.Stop.{Stop}
use Rattle.wl_load.specs.declared.stop.Stop.TheVariants.{Trap, Foreign as ForeignStop, Invalid as InvalidStop}
use Rattle.wl_load.specs.declared.instruction.Instruction.{Instruction}
use Rattle.wl_load.specs.declared.instruction.Instruction.TheVariants.{Compute, LoadValue, StoreValue, Unreachable, Nop, Open, OpenIf, EndThen, EndBlock, Branch, BranchIf, BranchTable, Return, Call, CallIndirect, DropOperand, Select, LocalGet, LocalSet, LocalTee, Constant, Storage, Foreign, Invalid}
use Rattle.wl_load.specs.declared.instruction.StorageInstruction.{StorageInstruction}
use Rattle.wl_load.specs.declared.instruction.StorageInstruction.TheVariants.{GlobalGet, GlobalSet, MemorySize, MemoryGrow, MemoryInit, DataDrop, MemoryCopy, MemoryFill, Notify, Wait, AtomicStore, CompareExchange}
use Rattle.wl_load.specs.Values.{last_of}
use Rattle.wl_load.specs.declared.program.Program.{Program}
use Rattle.wl_load.specs.declared.store.Store.{Store}
use Rattle.wl_load.specs.States.{Calls, Machine, operands, pushed, without_last, popped, popped_word}
use Rattle.wl_load.specs.Control.{open_block, end_block, end_then, open_if, branch, branch_if, return_call, call, call_indirect}
use Rattle.wl_load.specs.Storage as storage
use Rattle.wl_load.specs.Steps.{answered, stored_in, select, local_get, local_set, local_tee, branch_table, on_calls}

-- how many operands are taken
abbrev pub taken_by : Computation → ℕ
taken_by f = length (operand_widths (computation_signature f))

abbrev pub compute_by : Computation → Calls → Result Calls Stop
compute_by f s =
    answered (computed_by f (last_of (taken_by f) (operands s))) (without_last (taken_by f) s)

abbrev pub load_by : Load → ℕ → List ℕ → Calls → Result Calls Stop
load_by l offset memory s =
    popped_word s >>= λ q. answered (Some (loaded_from l memory (q.0 + offset))) q.1

-- a value of the store's width
abbrev pub put_by : StoreForm → ℕ → ℕ → Value → Store → Result Store Stop
put_by f offset a v store =
    if have_widths (I32 a ∷ v ∷ []) (Bits32 ∷ f.width ∷ [])
    then stored_in (Some (stored_to f store.memory (a + offset) v)) store else Err InvalidStop

abbrev pub store_by : StoreForm → ℕ → Machine → Result Machine Stop
store_by f offset m =
    popped m.calls >>= λ v. popped_word v.1 >>= λ a. put_by f offset a.0 v.0 m.store >>= λ store.
    Ok (storage.machine a.1 store)

-- without the last operand
abbrev pub dropped : Calls → Result Calls Stop
dropped s = popped s >>= λ q. Ok q.1

-- globals, memory and segments
abbrev pub run_storage : Program → StorageInstruction → Machine → Result Machine Stop
run_storage p (GlobalGet i) m = storage.global_get i m
run_storage p (GlobalSet i) m = storage.global_set i m
run_storage p MemorySize m = storage.memory_size m
run_storage p MemoryGrow m = storage.memory_grow p m
run_storage p (MemoryInit k) m = storage.memory_init k m
run_storage p (DataDrop k) m = storage.data_drop k m
run_storage p MemoryCopy m = storage.memory_copy m
run_storage p MemoryFill m = storage.memory_fill m
run_storage p (Notify offset) m = storage.notify offset m
run_storage p (Wait offset) m = storage.wait p offset m
run_storage p (AtomicStore offset) m = storage.atomic_store offset m
run_storage p (CompareExchange offset) m = storage.compare_exchange offset m

-- one operator, where the place is past it already
abbrev pub run_instruction : Program → Instruction → Machine → Result Machine Stop
run_instruction p (Compute f) m = on_calls m.store (compute_by f m.calls)
run_instruction p (LoadValue l offset) m =
    on_calls m.store (load_by l offset m.store.memory m.calls)
run_instruction p (StoreValue f offset) m = store_by f offset m
run_instruction p Unreachable m = Err (Trap UnreachableTrap)
run_instruction p Nop m = Ok m
run_instruction p (Open label) m = on_calls m.store (open_block p label m.calls)
run_instruction p (OpenIf type jump) m = on_calls m.store (open_if p type jump m.calls)
run_instruction p EndThen m = on_calls m.store (end_then p m.calls)
run_instruction p EndBlock m = on_calls m.store (end_block p m.calls)
run_instruction p (Branch n) m = on_calls m.store (branch p n m.calls)
run_instruction p (BranchIf n) m = on_calls m.store (branch_if p n m.calls)
run_instruction p (BranchTable labels) m = on_calls m.store (branch_table p labels m.calls)
run_instruction p Return m = on_calls m.store (return_call p m.calls)
run_instruction p (Call f) m = on_calls m.store (call p f m.calls)
run_instruction p (CallIndirect t) m = on_calls m.store (call_indirect p t m.calls)
run_instruction p DropOperand m = on_calls m.store (dropped m.calls)
run_instruction p Select m = on_calls m.store (select m.calls)
run_instruction p (LocalGet i) m = on_calls m.store (local_get i m.calls)
run_instruction p (LocalSet i) m = on_calls m.store (local_set i m.calls)
run_instruction p (LocalTee i) m = on_calls m.store (local_tee i m.calls)
run_instruction p (Constant v) m = Ok (storage.machine (pushed v m.calls) m.store)
run_instruction p (Storage i) m = run_storage p i m
run_instruction p Foreign m = Err ForeignStop
run_instruction p Invalid m = Err InvalidStop
