-- Where data, stack and heap lie, and the memory that holds them.
use Rattle.std.specs.Prelude.{◌≡◌, ◌≤◌, ◌<◌, ℕ, ◌*◌, ◌^◌, ◌==◌, ◌||◌, Bool, not, List, map, length, max, sum_by, if◌then◌else◌, None}
use Rattle.std.specs.List.{list_any, flat_map}
use Rattle.wl_index.specs.declared.memory.TheConstants.{LINKER_MEMORY_BASE}
use Rattle.wl_module.specs.declared.limits.TheConstants.{WASM_PAGE_SIZE}
use Rattle.wl_module.specs.declared.limits.MemoryType.{MemoryType}
use Rattle.wl_linking.specs.Bounds.{memories_of}
use Rattle.wl_linking.specs.Object.{Object}
use Rattle.wl_linking.specs.Steps.{Step, NoStep}
use Rattle.wl_linking.specs.declared.error.LinkError.{LinkError}
use Rattle.wl_linking.specs.declared.error.LinkError.TheVariants.{TooLarge}
use Rattle.wl_linking.specs.declared.error.Quantity.TheVariants.{Space, HeapEnd}
use Rattle.wl_index.specs.declared.index.TheConstants.{MAX_ENTRIES}
use Rattle.wl_data.specs.DataPlaces.{DataInput, data_of, IsDataPlaces, IsPastMemory}
use Rattle.wl_data.specs.MemorySize.{MemoryNeeds, needs_of, needed_bytes, raised_pages, new_maximum, memory_fault}
use Rattle.wl_index.specs.Memory.{stack_start}
use Rattle.wl_data.specs.Stack.{IsBadStackSize, IsStackTooHigh}
use Rattle.wl_data.specs.declared.options.DataOptions.{DataOptions}
use Rattle.wl_data.specs.declared.places.DataPlaces.{DataPlaces}
use Rattle.wl_symbols.specs.Input.{Input}
use Rattle.wl_bind.specs.Made.{linker_needs, has_shared_tls, greatest}
use Rattle.wl_places.specs.KeptData.{all_segments}
use Rattle.wl_places.specs.declared.placing.Placing.{Placing}

-- ---- the memories of objects

-- an object has one
abbrev pub has_memory : Object → Bool
has_memory o = not (length (memories_of o) == 0)

-- it defines one
abbrev pub defines_memory : Object → Bool
defines_memory o = not (length o.memories == 0)

-- their least sizes in pages
abbrev pub least_pages : Object → List ℕ
least_pages o = map (λ (m : MemoryType). m.initial) (memories_of o)

-- the greatest of these of all objects, and at least two where none defines a memory
abbrev pub first_pages : List Object → ℕ
first_pages objects =
    if list_any defines_memory objects then greatest (flat_map least_pages objects)
    else max (greatest (flat_map least_pages objects)) 2

-- ---- what places rest on

-- the address from which that of data counts: after what stays free, where there is a memory or
-- something counts from there
abbrev pub memory_base : Input → ℕ
memory_base input =
    if list_any has_memory input.link.objects || (linker_needs input).needs_memory_base
    then LINKER_MEMORY_BASE else 0

-- what decides where data lies
abbrev pub data_options : Input → DataOptions
data_options input = record {
  memory_base = memory_base input;
  stack_first = input.link.args.stack_first;
  stack_size = input.link.args.z_stack_size;
  shared_memory = input.link.args.shared_memory;
  shared_tls = has_shared_tls input;
}

-- the kept segments of all objects, and that
abbrev pub data_input : Input → DataInput
data_input input = data_of (all_segments input) (data_options input)

-- ---- the memory

-- what it has to hold, where the data lies there
abbrev pub memory_needs : Input → DataPlaces → MemoryNeeds
memory_needs input places =
    needs_of places.data_end (memory_base input) input.link.args.z_stack_size
    input.link.args.stack_first

-- its pages
abbrev pub memory_pages : Input → DataPlaces → ℕ
memory_pages input places =
    raised_pages (first_pages input.link.objects) (needed_bytes (memory_needs input places))
    input.link.args.initial_memory

-- the memory
abbrev pub output_memory : Input → DataPlaces → MemoryType
output_memory input places = record {
  initial = memory_pages input places;
  maximum = new_maximum None input.link.args.max_memory input.link.args.shared_memory
      (memory_pages input places);
  shared = input.link.args.shared_memory;
}

-- ---- the whole

-- the top of the stack, where the data lies there
abbrev pub stack_pointer : Input → DataPlaces → ℕ
stack_pointer input places =
    stack_start places.data_end input.link.args.z_stack_size input.link.args.stack_first

-- where the heap ends
abbrev pub heap_end : Input → DataPlaces → ℕ
heap_end input places = memory_pages input places * WASM_PAGE_SIZE

-- all of it, where the data lies there
abbrev pub placing_of : Input → DataPlaces → Placing
placing_of input places = record {
  places = places;
  memory_base = memory_base input;
  stack_pointer = stack_pointer input places;
  memory = output_memory input places;
  heap_end = heap_end input places;
}

-- where data, stack and heap lie
pub record IsPlacing (input : Input) (g : Placing) : Type 0 where
  pub laid : IsDataPlaces (data_input input) g.places
  pub whole : g ≡ placing_of input g.places

-- ---- why they can't be placed

-- more segments than a space may have entries
abbrev pub AreTooManySegments : Input → LinkError → Type 0
AreTooManySegments input e =
    (e ≡ TooLarge Space) × (MAX_ENTRIES < sum_by length (all_segments input))

-- the heap ends past the last address
abbrev pub IsHeapTooHigh : Input → DataPlaces → LinkError → Type 0
IsHeapTooHigh input places e = (e ≡ TooLarge HeapEnd) × (2 ^ 32 ≤ heap_end input places)

-- the reasons for which the memory can't hold what lies there, in the order in which they are
-- judged
abbrev pub memory_steps : Input → DataPlaces → LinkError → Type 0
memory_steps input places =
    Step (IsStackTooHigh (stack_pointer input places))
    (Step (memory_fault (memory_needs input places) input.link.args.initial_memory
    input.link.args.max_memory (first_pages input.link.objects))
    (Step (IsHeapTooHigh input places) NoStep))

-- the memory can't hold what lies where the data is
pub record IsMemoryFault (input : Input) (e : LinkError) : Type 0 where
  pub laid : DataPlaces
  pub places : IsDataPlaces (data_input input) laid
  pub fault : memory_steps input laid e

-- all the reasons, in the order in which they are judged, and what is judged after them
abbrev pub place_steps : Input → (LinkError → Type 0) → LinkError → Type 0
place_steps input behind =
    Step (AreTooManySegments input)
    (Step (IsBadStackSize input.link.args.z_stack_size)
    (Step (IsPastMemory (data_input input))
    (Step (IsMemoryFault input) behind)))

abbrev pub place_fault : Input → LinkError → Type 0
place_fault input = place_steps input NoStep
