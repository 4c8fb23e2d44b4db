-- The steps of a machine (core specification, "Execution"): by cases on the operator at the place.
use Rattle.std.specs.Prelude.{ℕ, zero, suc, ℤ, ◌==◌, if◌then◌else◌, List, [], ◌∷◌, length, slice_get, Option, Some, None, Result, Ok, Err}
use Rattle.std.specs.Option.{option_map_or}
use Rattle.wl_bytes.specs.Parse.{◌>>=◌}
use Rattle.wl_ops.specs.declared.op.Op.{Op}
use Rattle.wl_numeric.specs.declared.value.Value.{Value}
use Rattle.wl_numeric.specs.declared.value.Value.TheVariants.{I32}
use Rattle.wl_numeric.specs.declared.value.TrapKind.{TrapKind}
use Rattle.wl_numeric.specs.declared.value.TrapKind.TheVariants.{Unreachable as UnreachableTrap}
use Rattle.wl_numeric.specs.declared.signatures.Signature.{Signature}
use Rattle.wl_numeric.specs.Operators.{computed}
use Rattle.wl_numeric.specs.Memory.{loaded, stored}
use Rattle.wl_numeric.specs.Signatures.{is_numeric, is_load, is_store, signature_of, operand_widths, accepts}
use Rattle.wl_load.specs.declared.stop.Stop.{Stop}
use Rattle.wl_load.specs.declared.stop.Stop.TheVariants.{Invalid, Foreign, Trap, Waits, Host, Done, OutOfMemory}
use Rattle.wl_load.specs.declared.run_end.RunEnd.{RunEnd}
use Rattle.wl_load.specs.declared.run_end.RunEnd.TheVariants.{Done as DoneEnd, Trap as TrapEnd, Waits as WaitsEnd, Host as HostEnd, Foreign as ForeignEnd, Invalid as InvalidEnd, OutOfMemory as OutOfMemoryEnd}
use Rattle.wl_load.specs.declared.operation.Operation.{Operation}
use Rattle.wl_load.specs.declared.operation.ControlOperator.{ControlOperator}
use Rattle.wl_load.specs.declared.operation.StackOperator.{StackOperator}
use Rattle.wl_load.specs.declared.operation.StoreOperator.{StoreOperator}
use Rattle.wl_load.specs.declared.operation.Operation.TheVariants.{Control, Stack, Storage}
use Rattle.wl_load.specs.declared.operation.ControlOperator.TheVariants.{Unreachable, Nop, Block, Loop, If, Else, End, Branch, BranchIf, BranchTable, Return, Call, CallIndirect}
use Rattle.wl_load.specs.declared.operation.StackOperator.TheVariants.{Drop, Select, LocalGet, LocalSet, LocalTee, ConstI32, ConstI64}
use Rattle.wl_load.specs.declared.operation.StoreOperator.TheVariants.{GlobalGet, GlobalSet, MemorySize, MemoryGrow, MemoryInit, DataDrop, MemoryCopy, MemoryFill, Notify, Wait, AtomicStore, CompareExchange}
use Rattle.wl_load.specs.declared.blocks.Jump.{Jump}
use Rattle.wl_load.specs.Values.{last_of, same_width}
use Rattle.wl_load.specs.Blocks.{ending_of}
use Rattle.wl_load.specs.Table.{operation_of}
use Rattle.wl_load.specs.declared.program.Program.{Program}
use Rattle.wl_load.specs.declared.store.Store.{Store}
use Rattle.wl_load.specs.Codes.{Code}
use Rattle.wl_load.specs.Images.{code_of}
use Rattle.wl_load.specs.Immediates.{index_in, index_and_first_in, memory_in, memories_in, offset_in, word_in, long_in, block_type_in, labels_in, label_at, are_labels}
use Rattle.wl_load.specs.States.{Calls, Machine, operands, pushed, without_last, popped, popped_word, local_at, with_local, at_place, block_count}
use Rattle.wl_load.specs.Control.{found, block_label, loop_label, open_block, end_block, end_then, open_if, branch, branch_if, return_call, call, call_indirect}
use Rattle.wl_load.specs.Storage as storage

-- ---- operators that compute, load and store

-- how many operands an operator takes
abbrev pub operand_count : Op → ℕ
operand_count op = option_map_or (λ (s : Signature). length (operand_widths s)) (signature_of op) 0

-- a value is left, or there is a trap
abbrev pub answered : Option (Result Value TrapKind) → Calls → Result Calls Stop
answered None s = Err Invalid
answered (Some (Err kind)) s = Err (Trap kind)
answered (Some (Ok v)) s = Ok (pushed v s)

abbrev pub compute : Op → Calls → Result Calls Stop
compute op s =
    answered (computed op (last_of (operand_count op) (operands s)))
    (without_last (operand_count op) s)

abbrev pub load : Op → List ℕ → Calls → Result Calls Stop
load op memory s = popped_word s >>= λ q. answered (loaded op memory q.0) q.1

-- memory with the bytes, or a trap
abbrev pub stored_in : Option (Result (List ℕ) TrapKind) → Store → Result Store Stop
stored_in None store = Err Invalid
stored_in (Some (Err kind)) store = Err (Trap kind)
stored_in (Some (Ok memory)) store = Ok (storage.with_memory memory store)

-- an address and a value of the operator's width
abbrev pub put : Op → ℕ → Value → Store → Result Store Stop
put op a v store =
    if accepts op (I32 a ∷ v ∷ []) then stored_in (stored op store.memory a v) store
    else Err Invalid

abbrev pub store_value : Op → Machine → Result Machine Stop
store_value op m =
    popped m.calls >>= λ v. popped_word v.1 >>= λ a. put op a.0 v.0 m.store >>= λ store.
    Ok (storage.machine a.1 store)

-- ---- operands and locals

-- one of two values of one width: the first, and on 0 the second
abbrev pub chosen : Value → Value → ℕ → Result Value Stop
chosen a b n = if same_width a b then Ok (if n == 0 then b else a) else Err Invalid

abbrev pub select : Calls → Result Calls Stop
select s =
    popped_word s >>= λ n. popped n.1 >>= λ b. popped b.1 >>= λ a. chosen a.0 b.0 n.0 >>= λ v.
    Ok (pushed v a.1)

abbrev pub local_get : ℕ → Calls → Result Calls Stop
local_get i s = found (local_at i s) >>= λ v. Ok (pushed v s)

-- a value of the local's width
abbrev pub local_put : ℕ → Value → Calls → Result Calls Stop
local_put i v s =
    found (local_at i s) >>= λ old. if same_width v old then Ok (with_local i v s) else Err Invalid

abbrev pub local_set : ℕ → Calls → Result Calls Stop
local_set i s = popped s >>= λ q. local_put i q.0 q.1

abbrev pub local_tee : ℕ → Calls → Result Calls Stop
local_tee i s = popped s >>= λ q. local_put i q.0 (pushed q.0 q.1)

-- to the label that a number chooses, or the last one; all labels are named
abbrev pub branch_table : Program → List ℤ → Calls → Result Calls Stop
branch_table p labels s =
    popped_word s >>= λ q.
    if are_labels (block_count q.1) labels
    then (label_at labels q.0 >>= λ n. branch p n q.1) else Err Invalid

-- a loop, which begins anew after the operator
abbrev pub open_loop : Program → ℕ → List ℤ → Calls → Result Calls Stop
open_loop p place zs s = block_type_in zs >>= λ type. open_block p (loop_label type place) s

-- ---- an operator of the table

-- Blocks, branches and calls, at a place that is past the operator already; what needs the end
-- of its block has it by the jump.
abbrev pub exec_control : Program → Option Jump → ℕ → ControlOperator → List ℤ → Calls
    → Result Calls Stop
exec_control p jump place Unreachable zs s = Err (Trap UnreachableTrap)
exec_control p jump place Nop zs s = Ok s
exec_control p jump place Block zs s =
    block_type_in zs >>= λ type. found jump >>= λ j. open_block p (block_label type j.behind) s
exec_control p jump place Loop zs s = open_loop p place zs s
exec_control p jump place If zs s =
    block_type_in zs >>= λ type. found jump >>= λ j. open_if p type j s
exec_control p jump place Else zs s = end_then p s
exec_control p jump place End zs s = end_block p s
exec_control p jump place Branch zs s = index_in zs >>= λ n. branch p n s
exec_control p jump place BranchIf zs s = index_in zs >>= λ n. branch_if p n s
exec_control p jump place BranchTable zs s = branch_table p (labels_in zs) s
exec_control p jump place Return zs s = return_call p s
exec_control p jump place Call zs s = index_in zs >>= λ f. call p f s
exec_control p jump place CallIndirect zs s =
    index_and_first_in zs >>= λ t. call_indirect p t s

-- operands, locals and constants
abbrev pub exec_stack : StackOperator → List ℤ → Calls → Result Calls Stop
exec_stack Drop zs s = popped s >>= λ q. Ok q.1
exec_stack Select zs s = select s
exec_stack LocalGet zs s = index_in zs >>= λ i. local_get i s
exec_stack LocalSet zs s = index_in zs >>= λ i. local_set i s
exec_stack LocalTee zs s = index_in zs >>= λ i. local_tee i s
exec_stack ConstI32 zs s = word_in zs >>= λ v. Ok (pushed v s)
exec_stack ConstI64 zs s = long_in zs >>= λ v. Ok (pushed v s)

-- globals, memory and segments
abbrev pub exec_store : Program → StoreOperator → List ℤ → Machine → Result Machine Stop
exec_store p GlobalGet zs m = index_in zs >>= λ i. storage.global_get i m
exec_store p GlobalSet zs m = index_in zs >>= λ i. storage.global_set i m
exec_store p MemorySize zs m = memory_in zs >>= λ _. storage.memory_size m
exec_store p MemoryGrow zs m = memory_in zs >>= λ _. storage.memory_grow p m
exec_store p MemoryInit zs m = index_and_first_in zs >>= λ k. storage.memory_init k m
exec_store p DataDrop zs m = index_in zs >>= λ k. storage.data_drop k m
exec_store p MemoryCopy zs m = memories_in zs >>= λ _. storage.memory_copy m
exec_store p MemoryFill zs m = memory_in zs >>= λ _. storage.memory_fill m
exec_store p Notify zs m = offset_in zs >>= λ offset. storage.notify offset m
exec_store p Wait zs m = offset_in zs >>= λ offset. storage.wait p offset m
exec_store p AtomicStore zs m = offset_in zs >>= λ offset. storage.atomic_store offset m
exec_store p CompareExchange zs m = offset_in zs >>= λ offset. storage.compare_exchange offset m

-- ---- steps

-- what changes the calls alone
abbrev pub on_calls : Store → Result Calls Stop → Result Machine Stop
on_calls store (Ok calls) = Ok (storage.machine calls store)
on_calls store (Err stop) = Err stop

-- an operator of the table by its row; no other is run
abbrev pub exec_row : Program → Option Jump → ℕ → Option Operation → List ℤ → Machine
    → Result Machine Stop
exec_row p jump place None zs m = Err Foreign
exec_row p jump place (Some (Control c)) zs m =
    on_calls m.store (exec_control p jump place c zs m.calls)
exec_row p jump place (Some (Stack c)) zs m = on_calls m.store (exec_stack c zs m.calls)
exec_row p jump place (Some (Storage c)) zs m = exec_store p c zs m

-- one operator of a function's, where the place is past it already
unfoldable pub exec_op : Program → Option Jump → ℕ → Op → Machine → Result Machine Stop
exec_op p jump place op m =
    if is_numeric op then on_calls m.store (compute op m.calls)
    else if is_load op then on_calls m.store (load op m.store.memory m.calls)
    else if is_store op then store_value op m
    else exec_row p jump place (operation_of op) op.args m

-- goes on after the operator, and does what it says
abbrev pub exec_at : Program → List Op → ℕ → Option Op → Machine → Result Machine Stop
exec_at p ops place None m = Err Invalid
exec_at p ops place (Some op) m =
    exec_op p (ending_of op ops place) (suc place) op
    (record m { calls = at_place (suc place) m.calls })

abbrev pub exec_code : Program → Option Code → ℕ → Machine → Result Machine Stop
exec_code p None place m = Err Invalid
exec_code p (Some code) place m = exec_at p code.ops place (slice_get code.ops place) m

-- The operator at the place of the call that runs. One that stops changes nothing.
unfoldable pub step : Program → Machine → Result Machine Stop
step p m =
    exec_code p (code_of p m.calls.running.function) m.calls.running.place m

-- ---- runs

-- how a run ends by an operator that stops, at a place of a function, after so many others
abbrev pub end_of : ℕ → ℕ → ℕ → Stop → RunEnd
end_of f place used (Done vs) = DoneEnd vs
end_of f place used (Trap kind) = TrapEnd kind
end_of f place used Waits = WaitsEnd
end_of f place used (Host import) = HostEnd import
end_of f place used Foreign = ForeignEnd f place
end_of f place used Invalid = InvalidEnd f place
end_of f place used OutOfMemory = OutOfMemoryEnd used

-- A run goes on, or it has ended and left this.
pub data Progress : Type 0 where
  Going : Machine → Progress
  Ended : RunEnd → Store → Progress

-- goes on with what a step has made of a machine, or ends with what was before the step
abbrev pub goes_on : (Machine → Progress) → Machine → Result Machine Stop → Progress
goes_on f m (Ok next) = f next
goes_on f m (Err stop) =
    Ended (end_of m.calls.running.function m.calls.running.place 0 stop) m.store

-- n steps at most
abbrev pub exec : Program → ℕ → Machine → Progress
exec p zero m = Going m
exec p (suc n) m = goes_on (exec p n) m (step p m)
