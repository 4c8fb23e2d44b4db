-- Bodies that no call here makes, for the machine by itself.
use Rattle.std.specs.Prelude.{◌≡◌, ℕ, List, [], ◌∷◌, ◌++◌, replicate}
use Rattle.wl_synth.specs.Machine.{World, State, Done, Trap, Runs}

-- memory.fill writes 7 to three bytes from 16 on
abbrev pub filling : List ℕ
filling = 0x00 ∷ 0x41 ∷ 0x10 ∷ 0x41 ∷ 0x07 ∷ 0x41 ∷ 0x03 ∷ 0xfc ∷ 0x0b ∷ 0x00 ∷ 0x0b ∷ []

-- br_table leaves one of two blocks on 0 and both on n above 0; after the inner one comes
-- unreachable
abbrev pub leaving : ℕ → List ℕ
leaving n =
    0x00 ∷ 0x02 ∷ 0x40 ∷ 0x02 ∷ 0x40 ∷ 0x41 ∷ n ∷ 0x0e ∷ 0x01 ∷ 0x00 ∷ 0x01
    ∷ 0x0b ∷ 0x00 ∷ 0x0b ∷ 0x0b ∷ []

-- nothing but a memory
abbrev pub with_memory : List ℕ → State
with_memory memory =
    record {
      stack = [];
      locals = [];
      globals = [];
      memory = memory;
      segments = [];
      labels = [];
      calls = [];
      skipped = 0;
    }

-- the body ends and leaves a memory
abbrev pub Leaves : World → List ℕ → List ℕ → List ℕ → Type 0
Leaves w body old new = Runs w 0 body (with_memory old) (Done (with_memory new))

-- the body traps with memory as it was
abbrev pub TrapsOn : World → List ℕ → List ℕ → Type 0
TrapsOn w body old = (s : State) × Runs w 0 body (with_memory old) (Trap s) × (s.memory ≡ old)

-- In 32 bytes three are filled and no others, and in 18 bytes none; blocks are left by number.
pub record RunsOthers (w : World) : Type 0 where
  pub filled :
      Leaves w filling (replicate 32 0) (replicate 16 0 ++ 7 ∷ 7 ∷ 7 ∷ [] ++ replicate 13 0)
  pub outside : TrapsOn w filling (replicate 18 0)
  pub left : Leaves w (leaving 1) [] []
  pub reached : TrapsOn w (leaving 0) []
