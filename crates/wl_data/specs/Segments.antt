-- Segments as clauses see them.
use Rattle.std.specs.Prelude.{ℕ, List, Bool}

-- A segment that is kept: its number in its object, its bytes, how many bytes of the data section
-- lie before them, whether it goes into the memory when a module starts, whether each thread has
-- its own, and its alignment.
pub record KeptData : Type 0 where
  pub original : ℕ
  pub payload : List ℕ
  pub payload_start : ℕ
  pub active : Bool
  pub tls : Bool
  pub alignment : ℕ

-- What the output makes of a segment: its number in its object, its bytes, how many bytes of the
-- data section lie before them, the memory and the address that it goes to, how many bytes it takes
-- in the output, whether it goes nowhere by itself, and who copies it then: each thread, or the
-- first one.
pub record SegmentLayout : Type 0 where
  pub segment_index : ℕ
  pub payload : List ℕ
  pub payload_start : ℕ
  pub output_memory_index : ℕ
  pub output_memory_offset : ℕ
  pub encoded_output_size : ℕ
  pub passive : Bool
  pub tls_template : Bool
  pub shared_init : Bool
