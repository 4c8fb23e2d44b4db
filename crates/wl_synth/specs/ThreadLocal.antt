-- What a run of the body does that makes a thread's block.
use Rattle.std.specs.Prelude.{◌≡◌, ◌≢◌, ◌+◌, ◌*◌, ◌^◌, ◌<◌, ◌≤◌, ℕ, ℤ, pos, ◌+ℤ◌, true, List, [], ◌∷◌, length, replicate, slice_get, Option, Some}
use Rattle.std.specs.List.{AllByRecursion}
use Rattle.wl_module.specs.declared.limits.TheConstants.{WASM_PAGE_SIZE, MAX_PAGES}
use Rattle.wl_ops.specs.Standing.{window}
use Rattle.wl_synth.specs.declared.parts.TlsPointerFixup.{TlsPointerFixup}
use Rattle.wl_synth.specs.declared.parts.TlsGotFixup.{TlsGotFixup}
use Rattle.wl_synth.specs.Bodies.{ThreadBlock}
use Rattle.wl_synth.specs.Machine.{Value, I32, wrapped, World, State, i32_at, overlay}
use Rattle.wl_synth.specs.Memory.{FitsSegment, overlaid, ShareNoByte}

-- ---- pointers and globals

-- the sum of the base and an offset of either sign, modulo 2 ^ 32
abbrev pub moved_by : ℕ → ℤ → ℕ
moved_by base offset = wrapped 4294967296 (pos base +ℤ offset)

-- no pointer shares a byte with a later one
abbrev pub AreWordsApart : List TlsPointerFixup → Type 0
AreWordsApart [] = Unit {0}
AreWordsApart (f ∷ fs) = AllByRecursion (λ h. ShareNoByte f.dest 4 h.dest 4) fs × AreWordsApart fs

-- no global is named twice
abbrev pub NameDistinct : List TlsGotFixup → Type 0
NameDistinct [] = Unit {0}
NameDistinct (f ∷ fs) = AllByRecursion (λ h. h.global ≢ f.global) fs × NameDistinct fs

-- the global is there, of 32 bits, and may be set
abbrev pub IsWordGlobal : World → List Value → ℕ → Type 0
IsWordGlobal w globals k = (n : ℕ) × (slice_get globals k ≡ Some (I32 n)) × (w.is_mutable k ≡ true)

-- ---- the run

-- The base, a number of 32 bits, is the parameter. The block at it lies in memory, which isn't
-- above the greatest size, and the copies and the pointers lie in the block. Each copy is as long as
-- its segment, and no two pointers share a byte. The globals can hold addresses, and none is named
-- twice.
pub record CanInitTls (w : World) (s : State) (base : ℕ) (b : ThreadBlock) : Type 0 where
  pub is_word : base < 2 ^ 32
  pub pages : length s.memory ≤ MAX_PAGES * WASM_PAGE_SIZE
  pub given : slice_get s.locals 0 ≡ Some (I32 base)
  pub room : base + b.size ≤ length s.memory
  pub templates : AllByRecursion (FitsSegment s.segments b.size) b.templates
  pub pointers : AllByRecursion (λ f. f.dest + 4 ≤ b.size) b.pointers
  pub apart : AreWordsApart b.pointers
  pub base_global : IsWordGlobal w s.globals b.base_global
  pub got : AllByRecursion (λ f. IsWordGlobal w s.globals f.global × (f.global ≢ b.base_global))
      b.got
  pub distinct : NameDistinct b.got

-- The block holds zeros, over them the templates, and over these the pointers, each the base and
-- its offset.
pub record IsBlock (segments : List (Option (List ℕ))) (base : ℕ) (b : ThreadBlock)
    (block : List ℕ) : Type 0 where
  pub same_length : length block ≡ b.size
  pub pointers : AllByRecursion (λ f. i32_at f.dest block ≡ moved_by base f.offset) b.pointers
  pub others : (p n : ℕ) → AllByRecursion (λ f. ShareNoByte p n f.dest 4) b.pointers
      → window p n block ≡ window p n (overlaid segments b.templates (replicate b.size 0))

-- The block stands at the base, and all other memory is as it was. The base global holds the base,
-- and each other global that was asked for the base and its own offset. No other global is changed,
-- and nothing else.
pub record IsInitialized (s : State) (base : ℕ) (b : ThreadBlock) (t : State) : Type 0 where
  pub block : List ℕ
  pub is_block : IsBlock s.segments base b block
  pub written : t.memory ≡ overlay base block s.memory
  pub base_is : slice_get t.globals b.base_global ≡ Some (I32 base)
  pub got_are :
      AllByRecursion (λ f. slice_get t.globals f.global ≡ Some (I32 (moved_by base f.offset))) b.got
  pub other_globals : (k : ℕ) → k ≢ b.base_global → AllByRecursion (λ f. f.global ≢ k) b.got
      → slice_get t.globals k ≡ slice_get s.globals k
  pub rest : t ≡ record s {
    stack = [];
    labels = [];
    skipped = 0;
    memory = t.memory;
    globals = t.globals;
  }
