-- Segments don't change the size of memory.
use Rattle.std.proofs.Common.{◌≡◌, ◌∙◌, ℕ, ◌+◌, ◌*◌, ◌≤◌, true, false, cond, List, [], ◌∷◌, ◌++◌, length, take, drop, refl, arith, length-append, length-drop}
use Rattle.std.proofs.lemmas.Bool.Decides.{nat_tests}
use Rattle.std.proofs.lemmas.List.{length-take, length-replicate}
use Rattle.wl_module.specs.declared.limits.TheConstants.{WASM_PAGE_SIZE}
use Rattle.wl_data.specs.Segments.{SegmentLayout}
use Rattle.wl_numeric.specs.Memory.{overlay}
use Rattle.wl_load.specs.Fields.{laid}
use Rattle.wl_output.specs.declared.fixups.Fixup.{Fixup}
use Rattle.wl_run.specs.Data.{with_segment, with_segments, with_objects, empty_pages, first_memory, filled_payload}

overlay_length : (place : ℕ) (bytes under : List ℕ) → place + length bytes ≤ length under → length (overlay place bytes under) ≡ length under
overlay_length place bytes under within =
    omega (arith, length-append (take place under) (bytes ++ drop (place + length bytes) under), length-append bytes (drop (place + length bytes) under), length-take place under, length-drop (place + length bytes) under)

laid_length : (place : ℕ) (bytes under : List ℕ) → length (laid place bytes under) ≡ length under
laid_length place bytes under = grind (arith, nat_tests, overlay_length place bytes under)

segment_length : (fixups : List Fixup) (object : ℕ) (l : SegmentLayout) (memory : List ℕ) → length (with_segment fixups object l memory) ≡ length memory
segment_length fixups object l memory = elim l.passive as (λ p. length (cond p memory (laid l.output_memory_offset (filled_payload fixups object l) memory)) ≡ length memory) [
  | true ↦ refl
  | false ↦ laid_length l.output_memory_offset (filled_payload fixups object l) memory
]

segments_length : (fixups : List Fixup) (object : ℕ) (ls : List SegmentLayout) (memory : List ℕ) → length (with_segments fixups object ls memory) ≡ length memory
segments_length fixups object [] memory = refl
segments_length fixups object (l ∷ ls) memory =
    segments_length fixups object ls (with_segment fixups object l memory) ∙ segment_length fixups object l memory

objects_length : (fixups : List Fixup) (object : ℕ) (os : List (List SegmentLayout)) (memory : List ℕ) → length (with_objects fixups object os memory) ≡ length memory
objects_length fixups object [] memory = refl
objects_length fixups object (ls ∷ os) memory =
    objects_length fixups (object + 1) os (with_segments fixups object ls memory) ∙ segments_length fixups object ls memory

-- memory has the pages with which it begins
pub memory_length : (fixups : List Fixup) (pages : ℕ) (os : List (List SegmentLayout)) → length (first_memory fixups pages os) ≡ pages * WASM_PAGE_SIZE
memory_length fixups pages os = objects_length fixups 0 os (empty_pages pages) ∙ length-replicate (pages * WASM_PAGE_SIZE) 0
