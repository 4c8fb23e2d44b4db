-- What relocations take of what they name (object file linking, version 2, "Relocation Sections").
use Rattle.std.specs.Prelude.{◌||◌, Bool, true, false}
use Rattle.wl_custom.specs.Symbols.{is_function, is_data, is_global as is_global_kind, is_table as is_table_kind}
use Rattle.wl_custom.specs.declared.symbols.WasmSymbolKind.{WasmSymbolKind}
use Rattle.wl_custom.specs.declared.takings.AddressBase.TheVariants.{Memory, MemoryBase}
use Rattle.wl_custom.specs.declared.takings.Taking.{Taking}
use Rattle.wl_custom.specs.declared.takings.Taking.TheVariants.{FunctionIndex, Slot, SlotBehindBase, TypeIndex, GlobalIndex, TableNumber, Address}

-- the index of a type
abbrev pub is_type : Taking → Bool
is_type TypeIndex = true
is_type _ = false

-- the slot of a function, counted from any place
abbrev pub is_slot : Taking → Bool
is_slot Slot = true
is_slot SlotBehindBase = true
is_slot _ = false

-- the slot of a function, counted from the table's base
abbrev pub is_slot_behind_base : Taking → Bool
is_slot_behind_base SlotBehindBase = true
is_slot_behind_base _ = false

-- the index of a global
abbrev pub is_global : Taking → Bool
is_global GlobalIndex = true
is_global _ = false

-- the number of a table
abbrev pub is_table : Taking → Bool
is_table TableNumber = true
is_table _ = false

-- an address, counted from any place
abbrev pub is_address : Taking → Bool
is_address (Address base) = true
is_address _ = false

-- an address, counted from the start of the memory
abbrev pub is_in_memory : Taking → Bool
is_in_memory (Address Memory) = true
is_in_memory _ = false

-- an address, counted from the memory's base
abbrev pub is_behind_memory_base : Taking → Bool
is_behind_memory_base (Address MemoryBase) = true
is_behind_memory_base _ = false

-- ---- of what

-- the number of a global may be that of an entry of a GOT list, which data and functions have
abbrev pub has_global : WasmSymbolKind → Bool
has_global k = is_global_kind k || is_data k || is_function k

-- it is taken of symbols of that kind
abbrev pub is_taken_of : Taking → WasmSymbolKind → Bool
is_taken_of FunctionIndex = is_function
is_taken_of Slot = is_function
is_taken_of SlotBehindBase = is_function
is_taken_of TypeIndex = λ k. false
is_taken_of GlobalIndex = has_global
is_taken_of TableNumber = is_table_kind
is_taken_of (Address base) = is_data
