-- What blocks, branches and calls do (core specification, "Control Instructions").
use Rattle.std.specs.Prelude.{ℕ, ◌==◌, true, false, if◌then◌else◌, List, length, slice_get, Option, Some, None, Result, Ok, Err}
use Rattle.wl_bytes.specs.Parse.{◌>>=◌}
use Rattle.wl_module.specs.declared.types.ValType.{ValType}
use Rattle.wl_module.specs.Types.{FunctionType, same_type}
use Rattle.wl_numeric.specs.declared.value.Value.{Value}
use Rattle.wl_numeric.specs.declared.value.TrapKind.TheVariants.{OutOfBounds, NullEntry, BadSignature}
use Rattle.wl_load.specs.declared.stop.Stop.{Stop}
use Rattle.wl_load.specs.declared.stop.Stop.TheVariants.{Invalid, Foreign, Trap, Host}
use Rattle.wl_load.specs.declared.block_type.BlockType.{BlockType}
use Rattle.wl_load.specs.declared.blocks.Jump.{Jump}
use Rattle.wl_load.specs.declared.stack.Label.{Label}
use Rattle.wl_load.specs.Values.{handed}
use Rattle.wl_load.specs.declared.program.Program.{Program}
use Rattle.wl_load.specs.Codes.{Code}
use Rattle.wl_load.specs.Images.{is_host, code_of, type_of, is_known}
use Rattle.wl_load.specs.Immediates.{block_signature}
use Rattle.wl_load.specs.States.{Calls, operands, popped_word, taken, at_place, opened, label_at, reached, left, begun, entered}

-- what is there, and else the operands or names are invalid
abbrev pub found : {T : Type 0} → Option T → Result T Stop
found None = Err Invalid
found (Some x) = Ok x

-- ---- types of blocks

abbrev pub signature : Program → BlockType → Result FunctionType Stop
signature p type = found (block_signature p.types type)

abbrev pub block_params : Program → BlockType → Result (List ValType) Stop
block_params p type = signature p type >>= λ t. Ok t.params

abbrev pub block_results : Program → BlockType → Result (List ValType) Stop
block_results p type = signature p type >>= λ t. Ok t.results

-- what a branch to a block hands on: to a loop its parameters, and else the block's results
abbrev pub label_types : Program → Label → Result (List ValType) Stop
label_types p l =
    if l.is_loop then block_params p l.block_type else block_results p l.block_type

-- ---- blocks

-- a block that is left by a branch, and one that begins anew
abbrev pub block_label : BlockType → ℕ → Label
block_label type next = record { block_type = type; is_loop = false; next = next }

abbrev pub loop_label : BlockType → ℕ → Label
loop_label type next = record { block_type = type; is_loop = true; next = next }

-- a block opens, which takes its parameters from the block round it
abbrev pub open_block : Program → Label → Calls → Result Calls Stop
open_block p l s =
    block_params p l.block_type >>= λ ts. handed ts (operands s) >>= λ _.
    Ok (opened l (length ts) s)

-- the innermost block ends: the last values that its type asks for are handed on
abbrev pub end_block : Program → Calls → Result Calls Stop
end_block p s =
    block_results p s.running.block.label.block_type >>= λ ts. handed ts (operands s) >>= λ _.
    left (reached 0 (length ts) s)

-- an else that is reached ends its if, and goes on after it
abbrev pub end_then : Program → Calls → Result Calls Stop
end_then p s = end_block p (at_place s.running.block.label.next s)

-- an if goes on in its first part, and on 0 after its else or, without one, at its end
abbrev pub open_if : Program → BlockType → Jump → Calls → Result Calls Stop
open_if p type jump s =
    popped_word s >>= λ q. open_block p (block_label type jump.behind)
    (if q.0 == 0 then at_place jump.otherwise q.1 else q.1)

-- ---- branches

-- a loop begins anew, another block is left
abbrev pub landed : Label → Calls → Result Calls Stop
landed l s = if l.is_loop then Ok (at_place l.next s) else left (at_place l.next s)

-- to the n-th block from the innermost on, with the last values that it asks for
abbrev pub branch : Program → ℕ → Calls → Result Calls Stop
branch p n s =
    found (label_at n s) >>= λ l. label_types p l >>= λ ts. handed ts (operands s) >>= λ _.
    landed l (reached n (length ts) s)

-- on 0 not; the block is named in either case
abbrev pub branch_if : Program → ℕ → Calls → Result Calls Stop
branch_if p n s =
    popped_word s >>= λ q. found (label_at n q.1) >>= λ _.
    if q.0 == 0 then Ok q.1 else branch p n q.1

-- out of the function's own block
abbrev pub return_call : Program → Calls → Result Calls Stop
return_call p s = branch p (length s.running.around) s

-- ---- calls

-- A function begins: it is known, and not the host's.
abbrev pub begun_of : ℕ → Option Code → List Value → Calls → Result Calls Stop
begun_of f None vs s = Err Invalid
begun_of f (Some code) vs s = Ok (entered (begun f code vs) s)

abbrev pub begin_call : Program → ℕ → List Value → Calls → Result Calls Stop
begin_call p f vs s = if is_host p f then Err (Host f) else begun_of f (code_of p f) vs s

-- a function of this type takes its arguments
abbrev pub call_typed : Program → ℕ → FunctionType → Calls → Result Calls Stop
call_typed p f t s =
    if is_known p f t then (taken t.params s >>= λ q. begin_call p f q.0 q.1) else Err Foreign

abbrev pub call : Program → ℕ → Calls → Result Calls Stop
call p f s = found (type_of p f) >>= λ t. call_typed p f t s

-- a function of the table, by its place, has to be of the type that is named
abbrev pub entry_of : Option (Option ℕ) → Result ℕ Stop
entry_of None = Err (Trap OutOfBounds)
entry_of (Some None) = Err (Trap NullEntry)
entry_of (Some (Some f)) = Ok f

abbrev pub call_entry : Program → FunctionType → ℕ → Calls → Result Calls Stop
call_entry p t f s =
    found (type_of p f) >>= λ u.
    if same_type t u then call_typed p f u s else Err (Trap BadSignature)

abbrev pub call_indirect : Program → ℕ → Calls → Result Calls Stop
call_indirect p i s =
    found (slice_get p.types i) >>= λ t. popped_word s >>= λ q.
    entry_of (slice_get p.table q.0) >>= λ f. call_entry p t f q.1
