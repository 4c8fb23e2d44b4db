-- The bodies of the functions that the linker makes, as lists of operators.
use Rattle.std.specs.Prelude.{ℕ, pos, negsuc, zero, suc, ◌==◌, if◌then◌else◌, List, [], ◌∷◌, ◌++◌, replicate}
use Rattle.std.specs.List.{flat_map}
use Rattle.wl_ops.specs.declared.op.Op.{Op}
use Rattle.wl_synth.specs.declared.parts.PassiveSegmentCopy.{PassiveSegmentCopy}
use Rattle.wl_synth.specs.declared.parts.TlsPointerFixup.{TlsPointerFixup}
use Rattle.wl_synth.specs.declared.parts.TlsGotFixup.{TlsGotFixup}
use Rattle.wl_synth.specs.Wat as wat

-- a constant that isn't negative
abbrev pub const : ℕ → Op
const n = wat.i32_const (pos n)

-- ---- calls

-- a call of a function with so many results, which are dropped
abbrev pub call_ops : ℕ × ℕ → List Op
call_ops p = wat.call p.0 ∷ replicate p.1 wat.drop

-- functions with the numbers of their results, called in order
abbrev pub call_sequence_ops : List (ℕ × ℕ) → List Op
call_sequence_ops calls = flat_map call_ops calls ++ wat.end ∷ []

-- so many locals, from local i on
abbrev pub locals_from : ℕ → ℕ → List Op
locals_from i zero = []
locals_from i (suc n) = wat.local_get i ∷ locals_from (suc i) n

-- the constructors are called, and then a function with all n parameters
abbrev pub wrapper_ops : ℕ → ℕ → ℕ → List Op
wrapper_ops call_ctors original n =
    (wat.call call_ctors ∷ []) ++ locals_from 0 n ++ wat.call original ∷ [] ++ wat.end ∷ []

-- ---- shared memory

-- a segment is copied to its address
abbrev pub copy_ops : PassiveSegmentCopy → List Op
copy_ops c = const c.offset ∷ const 0 ∷ const c.len ∷ wat.memory_init c.segment_index ∷ []

abbrev pub drop_ops : PassiveSegmentCopy → List Op
drop_ops c = wat.data_drop c.segment_index ∷ []

-- who finds the flag 0 sets it to 1 and goes on; who finds 1 leaves one block, who finds more two
abbrev pub claim_ops : ℕ → List Op
claim_ops flag =
    wat.block ∷ wat.block ∷ wat.block
    ∷ const flag ∷ const 0 ∷ const 1 ∷ wat.i32_atomic_rmw_cmpxchg
    ∷ wat.br_table 0 1 2 ∷ wat.end ∷ []

-- the flag becomes 2, all who wait for it are woken, and the block of those who wait is left
abbrev pub release_ops : ℕ → List Op
release_ops flag =
    const flag ∷ const 2 ∷ wat.i32_atomic_store
    ∷ const flag ∷ wat.i32_const (negsuc 0) ∷ wat.memory_atomic_notify ∷ wat.drop
    ∷ wat.br 1 ∷ wat.end ∷ []

-- waits while the flag is 1, without an end
abbrev pub wait_ops : ℕ → List Op
wait_ops flag =
    const flag ∷ const 1 ∷ wat.i64_const (negsuc 0) ∷ wat.memory_atomic_wait32 ∷ wat.drop
    ∷ wat.end ∷ []

-- who comes first copies the segments, and each drops them in the end
abbrev pub init_memory_ops : ℕ → List PassiveSegmentCopy → List Op
init_memory_ops flag copies =
    claim_ops flag ++ flat_map copy_ops copies ++ release_ops flag ++ wait_ops flag
    ++ flat_map drop_ops copies ++ wat.end ∷ []

-- ---- thread-local storage

-- A thread's block: the global that holds its base, its size, the segments copied into it, the
-- pointers in it, and the globals that hold addresses in it.
pub record ThreadBlock : Type 0 where
  pub base_global : ℕ
  pub size : ℕ
  pub templates : List PassiveSegmentCopy
  pub pointers : List TlsPointerFixup
  pub got : List TlsGotFixup

abbrev pub thread_block :
    ℕ → ℕ → List PassiveSegmentCopy → List TlsPointerFixup → List TlsGotFixup → ThreadBlock
thread_block base_global size templates pointers got =
    record {
      base_global = base_global;
      size = size;
      templates = templates;
      pointers = pointers;
      got = got;
    }

-- the block is filled with zeros, where it has a byte
abbrev pub clear_ops : ℕ → List Op
clear_ops size =
    if size == 0 then [] else wat.local_get 0 ∷ const 0 ∷ const size ∷ wat.memory_fill ∷ []

-- the base, the parameter, and how far past it
abbrev pub place_ops : ℕ → List Op
place_ops offset =
    if offset == 0 then wat.local_get 0 ∷ [] else wat.local_get 0 ∷ const offset ∷ wat.i32_add ∷ []

abbrev pub template_ops : PassiveSegmentCopy → List Op
template_ops c = place_ops c.offset ++ const 0 ∷ const c.len ∷ wat.memory_init c.segment_index ∷ []

-- the base and the offset are stored at the pointer's place relative to the base
abbrev pub pointer_ops : ℕ → TlsPointerFixup → List Op
pointer_ops g f =
    const f.dest ∷ wat.global_get g ∷ wat.i32_add
    ∷ wat.global_get g ∷ wat.i32_const f.offset ∷ wat.i32_add ∷ wat.i32_store ∷ []

abbrev pub got_ops : ℕ → TlsGotFixup → List Op
got_ops g f = wat.global_get g ∷ wat.i32_const f.offset ∷ wat.i32_add ∷ wat.global_set f.global ∷ []

-- templates come before pointers, since copying one would write over a pointer that stands in it
abbrev pub init_tls_ops : ThreadBlock → List Op
init_tls_ops b =
    (wat.local_get 0 ∷ wat.global_set b.base_global ∷ []) ++ clear_ops b.size
    ++ flat_map template_ops b.templates ++ flat_map (pointer_ops b.base_global) b.pointers
    ++ flat_map (got_ops b.base_global) b.got ++ wat.end ∷ []
