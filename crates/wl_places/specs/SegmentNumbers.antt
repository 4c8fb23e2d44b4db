-- Which number each segment of an object has in the output.
use Rattle.std.specs.Prelude.{◌≡◌, ℕ, ◌==◌, ◌&&◌, Bool, true, List, length, if◌then◌else◌, Option, Some, None, position, slice_get}
use Rattle.wl_index.specs.declared.index.TheConstants.{WASM_DEAD_INDEX}
use Rattle.wl_ops.specs.Rewriting.{new_index}
use Rattle.wl_symbols.specs.Input.{Input, keeps}
use Rattle.wl_symbols.specs.declared.units.WasmGcUnit.TheVariants.{DataSegment}
use Rattle.wl_places.specs.Addresses.{segment_space}
use Rattle.wl_places.specs.declared.placing.Placing.{Placing}

-- the two are the same segment of the same object
abbrev pub same_segment : ℕ × ℕ → ℕ × ℕ → Bool
same_segment a b = (a.0 == b.0) && (a.1 == b.1)

-- the number in the output of a segment of an object, where it is kept
abbrev pub new_number : Input → Placing → ℕ → ℕ → Option ℕ
new_number input g object number =
    if keeps input object (DataSegment number)
    then position (same_segment (object, number)) (segment_space g) else None

-- the index, unless it says that there is none
abbrev pub unless_dead : ℕ → Option ℕ
unless_dead index = if index == WASM_DEAD_INDEX then None else Some index

-- the list has the number in the output of each segment of the object, which each kept one has, and
-- nothing for others
pub record AreNewNumbers (input : Input) (g : Placing) (object : ℕ) (numbers : List (Option ℕ))
    : Type 0 where
  pub each : (number : ℕ) → new_index numbers number ≡ new_number input g object number
  pub kept : (number : ℕ) → keeps input object (DataSegment number) ≡ true
      → new_index numbers number ≡ None → ⊥

-- the rows have those of each object
pub record AreAllNumbers (input : Input) (g : Placing) (rows : List (List (Option ℕ)))
    : Type 0 where
  pub len : length rows ≡ length input.link.objects
  pub each : (object : ℕ) (row : List (Option ℕ)) → slice_get rows object ≡ Some row
      → AreNewNumbers input g object row
