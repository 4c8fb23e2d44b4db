-- Bodies of plans, run on small memories: those of threads' blocks, and one that copies a segment for
-- all threads.
use Rattle.std.specs.Prelude.{◌≡◌, ℕ, ◌+◌, ◌*◌, true, List, [], ◌∷◌, ◌++◌, Option, Some, None, replicate, codes}
use Rattle.wl_synth.specs.Machine.{Value, I32, World, State, Done, Waits, Runs}

-- ---- the machine

-- memory is shared, globals may be set, and nothing is called
abbrev pub lone : World
lone =
    record {
      type_of = λ function. None;
      is_mutable = λ global. true;
      is_shared = true;
      answer = λ calls. [];
      waiting = λ at. 0;
    }

-- with a parameter, the stack pointer and four globals after it, a memory and segments
abbrev pub holding : List Value → List Value → List ℕ → List (Option (List ℕ)) → State
holding locals globals memory segments =
    record {
      stack = [];
      locals = locals;
      globals = I32 66576 ∷ globals;
      memory = memory;
      segments = segments;
      labels = [];
      calls = [];
      skipped = 0;
    }

-- ---- blocks of threads

-- at 4, of a memory of so many bytes that are all 5, with this after the base among the globals
abbrev pub before : ℕ → List Value → List (Option (List ℕ)) → State
before size others segments = holding (I32 4 ∷ []) (I32 0 ∷ others) (replicate (size + 8) 5) segments

-- the block has these bytes, and the base stands before these globals
abbrev pub after : List ℕ → List Value → List (Option (List ℕ)) → State
after block others segments =
    holding (I32 4 ∷ []) (I32 4 ∷ others) (replicate 4 5 ++ block ++ replicate 4 5) segments

-- two of three segments have bytes, and lie at 0 and 8 of twelve bytes
abbrev pub ordered_body : List ℕ
ordered_body =
    0x00 ∷ 0x20 ∷ 0x00 ∷ 0x24 ∷ 0x01 ∷ 0x20 ∷ 0x00 ∷ 0x41 ∷ 0x00 ∷ 0x41 ∷ 0x0c ∷ 0xfc
    ∷ 0x0b ∷ 0x00 ∷ 0x20 ∷ 0x00 ∷ 0x41 ∷ 0x00 ∷ 0x41 ∷ 0x01 ∷ 0xfc ∷ 0x08 ∷ 0x01 ∷ 0x00
    ∷ 0x20 ∷ 0x00 ∷ 0x41 ∷ 0x08 ∷ 0x6a ∷ 0x41 ∷ 0x00 ∷ 0x41 ∷ 0x04 ∷ 0xfc ∷ 0x08 ∷ 0x03
    ∷ 0x00 ∷ 0x0b ∷ []

abbrev pub ordered_segments : List (Option (List ℕ))
ordered_segments =
    Some (codes "abc") ∷ Some (codes "x") ∷ Some [] ∷ Some (codes "wxyz") ∷ []

-- the first word is the address of byte 15
abbrev pub pointing_body : List ℕ
pointing_body =
    0x00 ∷ 0x20 ∷ 0x00 ∷ 0x24 ∷ 0x01 ∷ 0x20 ∷ 0x00 ∷ 0x41 ∷ 0x00 ∷ 0x41 ∷ 0x10 ∷ 0xfc
    ∷ 0x0b ∷ 0x00 ∷ 0x20 ∷ 0x00 ∷ 0x41 ∷ 0x00 ∷ 0x41 ∷ 0x08 ∷ 0xfc ∷ 0x08 ∷ 0x01 ∷ 0x00
    ∷ 0x20 ∷ 0x00 ∷ 0x41 ∷ 0x08 ∷ 0x6a ∷ 0x41 ∷ 0x00 ∷ 0x41 ∷ 0x08 ∷ 0xfc ∷ 0x08 ∷ 0x02
    ∷ 0x00 ∷ 0x41 ∷ 0x00 ∷ 0x23 ∷ 0x01 ∷ 0x6a ∷ 0x23 ∷ 0x01 ∷ 0x41 ∷ 0x0f ∷ 0x6a ∷ 0x36
    ∷ 0x02 ∷ 0x00 ∷ 0x0b ∷ []

abbrev pub pointing_segments : List (Option (List ℕ))
pointing_segments =
    Some (codes "abcd") ∷ Some (replicate 8 0) ∷ Some (replicate 8 0) ∷ []

-- the last global gets the address of byte 4
abbrev pub setting_body : List ℕ
setting_body =
    0x00 ∷ 0x20 ∷ 0x00 ∷ 0x24 ∷ 0x01 ∷ 0x20 ∷ 0x00 ∷ 0x41 ∷ 0x00 ∷ 0x41 ∷ 0x08 ∷ 0xfc
    ∷ 0x0b ∷ 0x00 ∷ 0x20 ∷ 0x00 ∷ 0x41 ∷ 0x00 ∷ 0x41 ∷ 0x08 ∷ 0xfc ∷ 0x08 ∷ 0x00 ∷ 0x00
    ∷ 0x23 ∷ 0x01 ∷ 0x41 ∷ 0x04 ∷ 0x6a ∷ 0x24 ∷ 0x04 ∷ 0x0b ∷ []

-- the first word is the address of the block, the second that of what stands 5 bytes before it, and
-- the last global gets the first
abbrev pub several_body : List ℕ
several_body =
    0x00 ∷ 0x20 ∷ 0x00 ∷ 0x24 ∷ 0x01 ∷ 0x20 ∷ 0x00 ∷ 0x41 ∷ 0x00 ∷ 0x41 ∷ 0x0c ∷ 0xfc
    ∷ 0x0b ∷ 0x00 ∷ 0x20 ∷ 0x00 ∷ 0x41 ∷ 0x00 ∷ 0x41 ∷ 0x0c ∷ 0xfc ∷ 0x08 ∷ 0x00 ∷ 0x00
    ∷ 0x41 ∷ 0x00 ∷ 0x23 ∷ 0x01 ∷ 0x6a ∷ 0x23 ∷ 0x01 ∷ 0x41 ∷ 0x00 ∷ 0x6a ∷ 0x36 ∷ 0x02
    ∷ 0x00 ∷ 0x41 ∷ 0x04 ∷ 0x23 ∷ 0x01 ∷ 0x6a ∷ 0x23 ∷ 0x01 ∷ 0x41 ∷ 0x7b ∷ 0x6a ∷ 0x36
    ∷ 0x02 ∷ 0x00 ∷ 0x23 ∷ 0x01 ∷ 0x41 ∷ 0x00 ∷ 0x6a ∷ 0x24 ∷ 0x04 ∷ 0x0b ∷ []

-- ---- a segment for all threads

-- so many of its bytes lie after four times 256 bytes, and the flag four bytes further
abbrev pub laying_body : ℕ → List ℕ
laying_body len =
    0x00 ∷ 0x02 ∷ 0x40 ∷ 0x02 ∷ 0x40 ∷ 0x02 ∷ 0x40 ∷ 0x41 ∷ 0x84 ∷ 0x08 ∷ 0x41 ∷ 0x00
    ∷ 0x41 ∷ 0x01 ∷ 0xfe ∷ 0x48 ∷ 0x02 ∷ 0x00 ∷ 0x0e ∷ 0x02 ∷ 0x00 ∷ 0x01 ∷ 0x02 ∷ 0x0b
    ∷ 0x41 ∷ 0x80 ∷ 0x08 ∷ 0x41 ∷ 0x00 ∷ 0x41 ∷ len ∷ 0xfc ∷ 0x08 ∷ 0x00 ∷ 0x00 ∷ 0x41
    ∷ 0x84 ∷ 0x08 ∷ 0x41 ∷ 0x02 ∷ 0xfe ∷ 0x17 ∷ 0x02 ∷ 0x00 ∷ 0x41 ∷ 0x84 ∷ 0x08 ∷ 0x41
    ∷ 0x7f ∷ 0xfe ∷ 0x00 ∷ 0x02 ∷ 0x00 ∷ 0x1a ∷ 0x0c ∷ 0x01 ∷ 0x0b ∷ 0x41 ∷ 0x84 ∷ 0x08
    ∷ 0x41 ∷ 0x01 ∷ 0x42 ∷ 0x7f ∷ 0xfe ∷ 0x01 ∷ 0x02 ∷ 0x00 ∷ 0x1a ∷ 0x0b ∷ 0xfc ∷ 0x09
    ∷ 0x00 ∷ 0x0b ∷ []

abbrev pub with_flag : List ℕ → ℕ → List (Option (List ℕ)) → State
with_flag bytes flag segments =
    holding [] [] (replicate (4 * 256) 0 ++ bytes ++ flag ∷ 0 ∷ 0 ∷ 0 ∷ []) segments

-- a thread waits, and the memory is as it was
abbrev pub WaitsWith : State → Type 0
WaitsWith s =
    (t : State) × Runs lone 0 (laying_body 4) s (Waits t) × (t.memory ≡ s.memory)

-- ---- what they do

-- From bytes that are 5 blocks are made, and other bytes stay. From the flag 0 the segment, of four
-- bytes or of three, is laid and let go, from 1 the thread waits, and from 7 the segment is let go.
pub record RunsPlanned : Type 0 where
  pub ordered :
      Runs lone 0 ordered_body (before 12 (I32 12 ∷ I32 16 ∷ []) ordered_segments)
      (Done (after (codes "x" ++ replicate 7 0 ++ codes "wxyz") (I32 12 ∷ I32 16 ∷ [])
      ordered_segments))
  pub pointing :
      Runs lone 0 pointing_body (before 16 (I32 16 ∷ I32 8 ∷ []) pointing_segments)
      (Done (after (19 ∷ replicate 15 0) (I32 16 ∷ I32 8 ∷ []) pointing_segments))
  pub setting :
      Runs lone 0 setting_body
      (before 8 (I32 8 ∷ I32 4 ∷ I32 0 ∷ []) (Some (codes "abcdefgh") ∷ []))
      (Done (after (codes "abcdefgh") (I32 8 ∷ I32 4 ∷ I32 8 ∷ []) (Some (codes "abcdefgh") ∷ [])))
  pub several :
      Runs lone 0 several_body
      (before 12 (I32 12 ∷ I32 4 ∷ I32 0 ∷ []) (Some (replicate 12 9) ∷ []))
      (Done (after (4 ∷ 0 ∷ 0 ∷ 0 ∷ 255 ∷ 255 ∷ 255 ∷ 255 ∷ 9 ∷ 9 ∷ 9 ∷ 9 ∷ [])
      (I32 12 ∷ I32 4 ∷ I32 4 ∷ []) (Some (replicate 12 9) ∷ [])))
  pub laid :
      Runs lone 0 (laying_body 4) (with_flag (replicate 4 5) 0 (Some (codes "abcd") ∷ []))
      (Done (with_flag (codes "abcd") 2 (None ∷ [])))
  pub laid_three :
      Runs lone 0 (laying_body 3) (with_flag (replicate 4 5) 0 ordered_segments)
      (Done (with_flag (codes "abc" ++ 5 ∷ []) 2
      (None ∷ Some (codes "x") ∷ Some [] ∷ Some (codes "wxyz") ∷ [])))
  pub waits : WaitsWith (with_flag (replicate 4 5) 1 (Some (codes "abcd") ∷ []))
  pub let_go :
      Runs lone 0 (laying_body 4) (with_flag (replicate 4 5) 7 (Some (codes "abcd") ∷ []))
      (Done (with_flag (replicate 4 5) 7 (None ∷ [])))
