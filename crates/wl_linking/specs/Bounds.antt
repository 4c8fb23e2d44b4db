-- What the memories and segments of an object keep to (core specification, "Memories" and "Limits";
-- object file linking, version 2, "Segment Info Subsection").
use Rattle.std.specs.Prelude.{◌≡◌, ◌≤◌, ℕ, ◌^◌, List, ◌++◌, Option, Some, None}
use Rattle.std.specs.List.{filter_map}
use Rattle.wl_module.specs.Imports.{Imported}
use Rattle.wl_module.specs.declared.imports.ImportEntity.{ImportEntity}
use Rattle.wl_module.specs.declared.imports.ImportEntity.TheVariants as entity
use Rattle.wl_module.specs.declared.limits.MemoryType.{MemoryType}
use Rattle.wl_module.specs.declared.limits.TheConstants.{MAX_PAGES}
use Rattle.wl_custom.specs.Infos.{SegmentInfo}
use Rattle.wl_linking.specs.Object.{Object}

-- the memory that is imported, if it is one
abbrev pub memory_in : ImportEntity → Option MemoryType
memory_in (entity.Memory m) = Some m
memory_in (entity.Func number) = None
memory_in (entity.Table t) = None
memory_in (entity.Global g) = None

-- the memories of an object: those that it imports, and those that it defines
abbrev pub memories_of : Object → List MemoryType
memories_of o = filter_map (λ (i : Imported). memory_in i.entity) o.imports ++ o.memories

-- a memory has at first no more pages than there can be
abbrev pub IsSmallMemory : MemoryType → Type 0
IsSmallMemory m = m.initial ≤ MAX_PAGES

-- a segment is aligned to a power of two, of which the exponent is 31 at most
abbrev pub HasAlignment : SegmentInfo → Type 0
HasAlignment i = (n : ℕ) × (n ≤ 31) × (i.alignment ≡ 2 ^ n)
