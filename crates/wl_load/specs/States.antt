-- The calls that are open (core specification, "Stack"): each has locals, a place and open blocks,
-- the function's outermost, and each block has operands of its own.
use Rattle.std.specs.Prelude.{ℕ, suc, ◌-◌, false, List, [], ◌∷◌, ◌++◌, length, take, drop, slice_get, slice_set, Option, Some, None, option_map, Result, Ok, Err}
use Rattle.wl_bytes.specs.Parse.{◌>>=◌}
use Rattle.wl_module.specs.declared.types.ValType.{ValType}
use Rattle.wl_numeric.specs.declared.value.Value.{Value}
use Rattle.wl_load.specs.declared.stop.Stop.{Stop}
use Rattle.wl_load.specs.declared.stop.Stop.TheVariants.{Invalid, Done}
use Rattle.wl_load.specs.declared.stack.Label.{Label}
use Rattle.wl_load.specs.declared.block_type.BlockType.TheVariants.{Listed}
use Rattle.wl_load.specs.Values.{last_of, handed, as_word, as_long, zeros}
use Rattle.wl_load.specs.Codes.{Code}
use Rattle.wl_load.specs.declared.store.Store.{Store}

-- ---- states

-- A block that is open: its label (its type as its operator names it, whether it is a loop, and the
-- place where a branch to it goes on), and its operands, the topmost last.
pub record OpenBlock : Type 0 where
  pub label : Label
  pub operands : List Value

-- A call that is open: its function, the place of the operator that comes next, its locals, the
-- innermost block, and the blocks round that, the next one first. The last of all these is the
-- function's own.
pub record OpenCall : Type 0 where
  pub function : ℕ
  pub place : ℕ
  pub locals : List Value
  pub block : OpenBlock
  pub around : List OpenBlock

-- The call that runs, and those that wait for it to return, the caller first.
pub record Calls : Type 0 where
  pub running : OpenCall
  pub waiting : List OpenCall

-- all that an operator may look at or change
pub record Machine : Type 0 where
  pub calls : Calls
  pub store : Store

-- ---- operands: an operator takes those of the innermost block alone

abbrev pub operands : Calls → List Value
operands s = s.running.block.operands

abbrev pub block_with : List Value → OpenBlock → OpenBlock
block_with vs b = record b { operands = vs }

abbrev pub call_with : List Value → OpenCall → OpenCall
call_with vs c = record c { block = block_with vs c.block }

abbrev pub with_operands : List Value → Calls → Calls
with_operands vs s = record s { running = call_with vs s.running }

-- some more values
abbrev pub pushed_all : List Value → Calls → Calls
pushed_all vs s = with_operands (operands s ++ vs) s

-- one more
abbrev pub pushed : Value → Calls → Calls
pushed v s = with_operands (operands s ++ v ∷ []) s

-- without the last ones
abbrev pub without_last : ℕ → Calls → Calls
without_last n s = with_operands (take (length (operands s) - n) (operands s)) s

-- the last operand is taken
abbrev pub popped_of : Option Value → Calls → Result (Value × Calls) Stop
popped_of None s = Err Invalid
popped_of (Some v) s = Ok (v, without_last 1 s)

abbrev pub popped : Calls → Result (Value × Calls) Stop
popped s = popped_of (slice_get (operands s) (length (operands s) - 1)) s

-- the last operand is taken, a number of 32 bits, of 64 bits
abbrev pub popped_word : Calls → Result (ℕ × Calls) Stop
popped_word s = popped s >>= λ p. as_word p.0 >>= λ n. Ok (n, p.1)

abbrev pub popped_long : Calls → Result (ℕ × Calls) Stop
popped_long s = popped s >>= λ p. as_long p.0 >>= λ n. Ok (n, p.1)

-- the last operands are taken, one of each type
abbrev pub taken : List ValType → Calls → Result (List Value × Calls) Stop
taken ts s = handed ts (operands s) >>= λ vs. Ok (vs, without_last (length ts) s)

-- ---- locals and places

abbrev pub local_at : ℕ → Calls → Option Value
local_at i s = slice_get s.running.locals i

abbrev pub with_local : ℕ → Value → Calls → Calls
with_local i v s =
    record s { running = record s.running { locals = slice_set s.running.locals i v } }

-- goes on at a place
abbrev pub at_place : ℕ → Calls → Calls
at_place place s = record s { running = record s.running { place = place } }

-- ---- blocks

-- a block opens, with so many of the operands round it
abbrev pub opened : Label → ℕ → Calls → Calls
opened label n s =
    record s {
      running = record s.running {
        block = record { label = label; operands = last_of n (operands s) };
        around = (without_last n s).running.block ∷ s.running.around;
      };
    }

-- all blocks of the call that runs, the innermost first
abbrev pub blocks : Calls → List OpenBlock
blocks s = s.running.block ∷ s.running.around

-- the label of the n-th of them
abbrev pub label_at : ℕ → Calls → Option Label
label_at n s = option_map (λ (b : OpenBlock). b.label) (slice_get (blocks s) n)

-- how many blocks are open in the call
abbrev pub block_count : Calls → ℕ
block_count s = suc (length s.running.around)

-- The n-th block is the innermost again, and has the last operands, so many, and no others.
abbrev pub reached_of : List OpenBlock → List Value → Calls → Calls
reached_of [] vs s = s
reached_of (b ∷ bs) vs s =
    record s { running = record s.running { block = block_with vs b; around = bs } }

abbrev pub reached : ℕ → ℕ → Calls → Calls
reached n count s =
    reached_of (drop n (blocks s)) (last_of count (operands s)) s

-- The innermost block is left, and its operands are those that are handed on: to the block round
-- it, from the function's own block to the caller's innermost one, and where no call waits as the
-- results of all.
abbrev pub returned : List Value → List OpenCall → Result Calls Stop
returned vs [] = Err (Done vs)
returned vs (c ∷ cs) = Ok (record { running = call_with (c.block.operands ++ vs) c; waiting = cs })

abbrev pub left_to : List OpenBlock → Calls → Result Calls Stop
left_to [] s = returned (operands s) s.waiting
left_to (b ∷ bs) s =
    Ok (record s {
      running = record s.running { block = block_with (b.operands ++ operands s) b; around = bs };
    })

abbrev pub left : Calls → Result Calls Stop
left s = left_to s.running.around s

-- ---- calls

-- the label of a function's own block, which is left after its last operator
abbrev pub own_label : Code → Label
own_label code =
    record { block_type = Listed code.type_index; is_loop = false; next = length code.ops }

-- a function begins, with its arguments
abbrev pub begun : ℕ → Code → List Value → OpenCall
begun f code arguments =
    record {
      function = f;
      place = 0;
      locals = arguments ++ zeros code.locals;
      block = record { label = own_label code; operands = [] };
      around = [];
    }

-- it is called by the one that runs
abbrev pub entered : OpenCall → Calls → Calls
entered c s = record { running = c; waiting = s.running ∷ s.waiting }
