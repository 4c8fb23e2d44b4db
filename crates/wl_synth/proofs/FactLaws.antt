-- The machine on bodies that no call here makes, and on the two short ones.
use Rattle.std.proofs.Common.{◌≡◌, ℕ, pos, List, [], ◌∷◌, Ok, refl, replicate, rules}
use Rattle.wl_bytes.specs.Grammar.{times_at}
use Rattle.wl_bytes.specs.Reading.{leb_len_from, take_at, leb_at, u32_at, byte_at, signed_at}
use Rattle.wl_ops.specs.declared.op.Op.{Op}
use Rattle.wl_ops.specs.Table.{shape_of}
use Rattle.wl_ops.specs.Immediates.{single_at, immediate_at, immediates_at}
use Rattle.wl_ops.specs.Operators.{sub_at, head_at, taken_shape, op_at}
use Rattle.wl_ops.specs.Decoding.{AreTaken, local_at, rest_of, ops_of, body_of}
use Rattle.wl_synth.specs.Wat as wat
use Rattle.wl_synth.specs.Bodies.{const}
use Rattle.wl_synth.specs.Machine.{World, State, Label, instruction, step}
use Rattle.wl_synth.specs.Calls.{TrapsAtOnce, DoesNothing}
use Rattle.wl_synth.specs.Facts.{filling, leaving, with_memory, RunsOthers}

-- what is computed of a body is what it spells
abbrev pub Computes : Type 0
Computes = (ops : List Op) (body : List ℕ) → body_of body ≡ Ok ops → AreTaken ops body

abbrev filling_ops : List Op
filling_ops = const 16 ∷ const 7 ∷ const 3 ∷ wat.memory_fill ∷ wat.end ∷ []

abbrev leaving_ops : ℕ → List Op
leaving_ops n = wat.block ∷ wat.block ∷ const n ∷ wat.by_byte 0x0e (pos 1 ∷ pos 0 ∷ pos 1 ∷ []) ∷ wat.end ∷ wat.unreachable ∷ wat.end ∷ wat.end ∷ []

filling_read : body_of filling ≡ Ok filling_ops
unfolding leb_at take_at body_of ops_of rest_of op_at head_at sub_at taken_shape shape_of immediates_at immediate_at single_at times_at local_at u32_at byte_at signed_at leb_len_from
filling_read = refl

leaving_one : body_of (leaving 1) ≡ Ok (leaving_ops 1)
unfolding leb_at take_at body_of ops_of rest_of op_at head_at sub_at taken_shape shape_of immediates_at immediate_at single_at times_at local_at u32_at byte_at signed_at leb_len_from
leaving_one = refl

leaving_none : body_of (leaving 0) ≡ Ok (leaving_ops 0)
unfolding leb_at take_at body_of ops_of rest_of op_at head_at sub_at taken_shape shape_of immediates_at immediate_at single_at times_at local_at u32_at byte_at signed_at leb_len_from
leaving_none = refl

abbrev label : Label
label = record { results = 0; below = [] }

-- where the machine traps
abbrev full : State
full = record (with_memory (replicate 18 0)) { labels = label ∷ [] }

abbrev in_block : State
in_block = record (with_memory []) { labels = label ∷ label ∷ [] }

pub facts : Computes → (w : World) → RunsOthers w
unfolding step instruction
facts read w = record {
  filled = (filling_ops, (read filling_ops filling filling_read).0, refl);
  outside = (full, (filling_ops, (read filling_ops filling filling_read).0, refl), refl);
  left = (leaving_ops 1, (read (leaving_ops 1) (leaving 1) leaving_one).0, refl);
  reached = (in_block, (leaving_ops 0, (read (leaving_ops 0) (leaving 0) leaving_none).0, refl), refl);
}

stub_read : body_of (0 ∷ 0 ∷ 0x0b ∷ []) ≡ Ok (wat.unreachable ∷ wat.end ∷ [])
unfolding leb_at take_at body_of ops_of rest_of op_at head_at sub_at taken_shape shape_of immediates_at immediate_at single_at times_at local_at u32_at byte_at signed_at leb_len_from
stub_read = refl

empty_read : body_of (0 ∷ 0x0b ∷ []) ≡ Ok (wat.end ∷ [])
unfolding leb_at take_at body_of ops_of rest_of op_at head_at sub_at taken_shape shape_of immediates_at immediate_at single_at times_at local_at u32_at byte_at signed_at leb_len_from
empty_read = refl

pub stub_traps : Computes → TrapsAtOnce (0 ∷ 0 ∷ 0x0b ∷ [])
unfolding step instruction
stub_traps read w s results =
    let ops : List Op = wat.unreachable ∷ wat.end ∷ [] in
    (ops, (read ops (0 ∷ 0 ∷ 0x0b ∷ []) stub_read).0, refl)

pub empty_ends : Computes → DoesNothing (0 ∷ 0x0b ∷ [])
unfolding step instruction
empty_ends read w s =
    let ops : List Op = wat.end ∷ [] in
    (ops, (read ops (0 ∷ 0x0b ∷ []) empty_read).0, search rules)
