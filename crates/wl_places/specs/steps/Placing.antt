-- The memories of objects, one by one.
use Rattle.std.specs.Prelude.{ℕ, Bool, List, map, is_some}
use Rattle.std.specs.List.{filter_map}
use Rattle.std.specs.Option.{option_map_or}
use Rattle.wl_module.specs.Imports.{Imported}
use Rattle.wl_module.specs.declared.limits.MemoryType.{MemoryType}
use Rattle.wl_bind.specs.Made.{greatest}
use Rattle.wl_linking.specs.Bounds.{memory_in}

-- what is imported is a memory
abbrev pub is_memory_import : Imported → Bool
is_memory_import i = is_some (memory_in i.entity)

-- the least size of a memory that is imported, in pages; 0 for other things
abbrev pub import_pages : Imported → ℕ
import_pages i = option_map_or (λ (m : MemoryType). m.initial) (memory_in i.entity) 0

-- the memories that are imported
abbrev pub imported_memories : List Imported → List MemoryType
imported_memories imports = filter_map (λ (i : Imported). memory_in i.entity) imports

-- the greatest least size of these memories, in pages; 0 without any
abbrev pub most_pages : List MemoryType → ℕ
most_pages memories = greatest (map (λ (m : MemoryType). m.initial) memories)
