-- Bodies of plans on small memories.
use Rattle.std.proofs.Common.{◌≡◌, ℕ, pos, negsuc, List, [], ◌∷◌, Some, Ok, refl, replicate, codes}
use Rattle.wl_bytes.specs.Grammar.{times_at}
use Rattle.wl_bytes.specs.Reading.{leb_len_from, take_at, leb_at, u32_at, byte_at, signed_at}
use Rattle.wl_ops.specs.declared.op.Op.{Op}
use Rattle.wl_ops.specs.Table.{shape_of}
use Rattle.wl_ops.specs.Immediates.{single_at, immediate_at, immediates_at}
use Rattle.wl_ops.specs.Operators.{sub_at, head_at, taken_shape, op_at}
use Rattle.wl_ops.specs.Decoding.{local_at, rest_of, ops_of, body_of}
use Rattle.wl_synth.specs.Bodies.{init_tls_ops, init_memory_ops, thread_block}
use Rattle.wl_synth.specs.Machine.{State, Label, instruction, step}
use Rattle.wl_synth.specs.PlannedFacts.{RunsPlanned, ordered_body, pointing_body, setting_body, several_body, laying_body, with_flag}
use Rattle.wl_synth.specs.declared.parts.PassiveSegmentCopy.{PassiveSegmentCopy}
use Rattle.wl_synth.proofs.FactLaws.{Computes}

abbrev copy : ℕ → ℕ → ℕ → PassiveSegmentCopy
copy number offset len = record { segment_index = number; offset = offset; len = len }

abbrev ordered_ops : List Op
ordered_ops = init_tls_ops (thread_block 1 12 (copy 1 0 1 ∷ copy 3 8 4 ∷ []) [] [])

ordered_read : body_of ordered_body ≡ Ok ordered_ops
unfolding leb_at take_at body_of ops_of rest_of op_at head_at sub_at taken_shape shape_of immediates_at immediate_at single_at times_at local_at u32_at byte_at signed_at leb_len_from
ordered_read = refl

abbrev pointing_ops : List Op
pointing_ops = init_tls_ops (thread_block 1 16 (copy 1 0 8 ∷ copy 2 8 8 ∷ []) (record { dest = 0; offset = pos 15 } ∷ []) [])

pointing_read : body_of pointing_body ≡ Ok pointing_ops
unfolding leb_at take_at body_of ops_of rest_of op_at head_at sub_at taken_shape shape_of immediates_at immediate_at single_at times_at local_at u32_at byte_at signed_at leb_len_from
pointing_read = refl

abbrev setting_ops : List Op
setting_ops = init_tls_ops (thread_block 1 8 (copy 0 0 8 ∷ []) [] (record { global = 4; offset = pos 4 } ∷ []))

setting_read : body_of setting_body ≡ Ok setting_ops
unfolding leb_at take_at body_of ops_of rest_of op_at head_at sub_at taken_shape shape_of immediates_at immediate_at single_at times_at local_at u32_at byte_at signed_at leb_len_from
setting_read = refl

abbrev several_ops : List Op
several_ops =
    init_tls_ops (thread_block 1 12 (copy 0 0 12 ∷ [])
    (record { dest = 0; offset = pos 0 } ∷ record { dest = 4; offset = negsuc 4 } ∷ [])
    (record { global = 4; offset = pos 0 } ∷ []))

several_read : body_of several_body ≡ Ok several_ops
unfolding leb_at take_at body_of ops_of rest_of op_at head_at sub_at taken_shape shape_of immediates_at immediate_at single_at times_at local_at u32_at byte_at signed_at leb_len_from
several_read = refl

abbrev laying_ops : ℕ → List Op
laying_ops len = init_memory_ops 1028 (copy 0 1024 len ∷ [])

laying_read : body_of (laying_body 4) ≡ Ok (laying_ops 4)
unfolding leb_at take_at body_of ops_of rest_of op_at head_at sub_at taken_shape shape_of immediates_at immediate_at single_at times_at local_at u32_at byte_at signed_at leb_len_from
laying_read = refl

laying_three : body_of (laying_body 3) ≡ Ok (laying_ops 3)
unfolding leb_at take_at body_of ops_of rest_of op_at head_at sub_at taken_shape shape_of immediates_at immediate_at single_at times_at local_at u32_at byte_at signed_at leb_len_from
laying_three = refl

abbrev label : Label
label = record { results = 0; below = [] }

-- where a thread waits: inside one block
abbrev waiting : State
waiting =
    record (with_flag (replicate 4 5) 1 (Some (codes "abcd") ∷ [])) { labels = label ∷ label ∷ [] }

pub planned_facts : Computes → RunsPlanned
unfolding step instruction
planned_facts read = record {
  ordered = (ordered_ops, (read ordered_ops ordered_body ordered_read).0, refl);
  pointing = (pointing_ops, (read pointing_ops pointing_body pointing_read).0, refl);
  setting = (setting_ops, (read setting_ops setting_body setting_read).0, refl);
  several = (several_ops, (read several_ops several_body several_read).0, refl);
  laid = (laying_ops 4, (read (laying_ops 4) (laying_body 4) laying_read).0, refl);
  laid_three = (laying_ops 3, (read (laying_ops 3) (laying_body 3) laying_three).0, refl);
  waits = (waiting, (laying_ops 4, (read (laying_ops 4) (laying_body 4) laying_read).0, refl), refl);
  let_go = (laying_ops 4, (read (laying_ops 4) (laying_body 4) laying_read).0, refl);
}
