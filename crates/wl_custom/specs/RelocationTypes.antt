-- The types of relocations (object file linking, version 2, "Relocation Sections"), as one table.
use Rattle.std.specs.Prelude.{ℕ, ◌==◌, Bool, true, false, List, [], ◌∷◌, Option, codes, find}
use Rattle.wl_custom.specs.Takings.{is_type, is_slot, is_slot_behind_base, is_global, is_table, is_address, is_in_memory, is_behind_memory_base, is_taken_of}
use Rattle.wl_custom.specs.declared.relocation_type.RelocationType.{RelocationType}
use Rattle.wl_custom.specs.declared.relocation_type.RelocationType.TheVariants as type
use Rattle.wl_custom.specs.declared.relocation_type.FieldForm.{FieldForm}
use Rattle.wl_custom.specs.declared.relocation_type.FieldForm.TheVariants.{PaddedUnsigned, PaddedSigned, Word}
use Rattle.wl_custom.specs.declared.symbols.WasmSymbolKind.{WasmSymbolKind}
use Rattle.wl_custom.specs.declared.takings.AddressBase.TheVariants.{Memory, MemoryBase, ThreadData}
use Rattle.wl_custom.specs.declared.takings.Taking.{Taking}
use Rattle.wl_custom.specs.declared.takings.Taking.TheVariants.{FunctionIndex, Slot, SlotBehindBase, TypeIndex, GlobalIndex, TableNumber, Address}

-- what the conventions say of a type: its number and name, how its field holds the value, what it
-- takes of what it names, and whether it may stand in data too, and not in code alone
pub record RelocationRow : Type 0 where
  pub number : ℕ
  pub name : List ℕ
  pub form : FieldForm
  pub takes : Taking
  pub in_data : Bool

-- the row of a type that may stand in code and in data
abbrev anywhere : ℕ → List ℕ → FieldForm → Taking → RelocationRow
anywhere number name form takes =
    record { number = number; name = name; form = form; takes = takes; in_data = true }

-- the row of a type that may stand in code alone: data has no base to count a slot from
abbrev in_code : ℕ → List ℕ → FieldForm → Taking → RelocationRow
in_code number name form takes =
    record { number = number; name = name; form = form; takes = takes; in_data = false }

-- the row of each type
abbrev pub relocation_row : RelocationType → RelocationRow
relocation_row type.FunctionIndexLeb =
    anywhere 0 (codes "R_WASM_FUNCTION_INDEX_LEB") PaddedUnsigned FunctionIndex
relocation_row type.TableIndexSleb =
    anywhere 1 (codes "R_WASM_TABLE_INDEX_SLEB") PaddedSigned Slot
relocation_row type.TableIndexI32 = anywhere 2 (codes "R_WASM_TABLE_INDEX_I32") Word Slot
relocation_row type.MemoryAddrLeb =
    anywhere 3 (codes "R_WASM_MEMORY_ADDR_LEB") PaddedUnsigned (Address Memory)
relocation_row type.MemoryAddrSleb =
    anywhere 4 (codes "R_WASM_MEMORY_ADDR_SLEB") PaddedSigned (Address Memory)
relocation_row type.MemoryAddrI32 =
    anywhere 5 (codes "R_WASM_MEMORY_ADDR_I32") Word (Address Memory)
relocation_row type.TypeIndexLeb =
    anywhere 6 (codes "R_WASM_TYPE_INDEX_LEB") PaddedUnsigned TypeIndex
relocation_row type.GlobalIndexLeb =
    anywhere 7 (codes "R_WASM_GLOBAL_INDEX_LEB") PaddedUnsigned GlobalIndex
relocation_row type.MemoryAddrRelSleb =
    anywhere 11 (codes "R_WASM_MEMORY_ADDR_REL_SLEB") PaddedSigned (Address MemoryBase)
relocation_row type.TableIndexRelSleb =
    in_code 12 (codes "R_WASM_TABLE_INDEX_REL_SLEB") PaddedSigned SlotBehindBase
relocation_row type.GlobalIndexI32 =
    anywhere 13 (codes "R_WASM_GLOBAL_INDEX_I32") Word GlobalIndex
relocation_row type.TableNumberLeb =
    anywhere 20 (codes "R_WASM_TABLE_NUMBER_LEB") PaddedUnsigned TableNumber
relocation_row type.MemoryAddrTlsSleb =
    anywhere 21 (codes "R_WASM_MEMORY_ADDR_TLS_SLEB") PaddedSigned (Address ThreadData)
relocation_row type.FunctionIndexI32 =
    anywhere 26 (codes "R_WASM_FUNCTION_INDEX_I32") Word FunctionIndex

-- the types there are a rule for
abbrev pub relocation_types : List RelocationType
relocation_types =
    type.FunctionIndexLeb
    ∷ type.TableIndexSleb
    ∷ type.TableIndexI32
    ∷ type.MemoryAddrLeb
    ∷ type.MemoryAddrSleb
    ∷ type.MemoryAddrI32
    ∷ type.TypeIndexLeb
    ∷ type.GlobalIndexLeb
    ∷ type.MemoryAddrRelSleb
    ∷ type.TableIndexRelSleb
    ∷ type.GlobalIndexI32
    ∷ type.TableNumberLeb
    ∷ type.MemoryAddrTlsSleb
    ∷ type.FunctionIndexI32
    ∷ []

-- the type of that number; the others are offsets of functions and sections, tags, forms of 64
-- bits, and addresses relative to their field
abbrev pub relocation_type_of : ℕ → Option RelocationType
relocation_type_of n = find (λ ty. (relocation_row ty).number == n) relocation_types

-- ---- columns

-- its name
abbrev pub type_name : RelocationType → List ℕ
type_name ty = (relocation_row ty).name

-- how its field holds the value: five bytes of LEB128, five of signed LEB128, or four bytes
abbrev pub field_form : RelocationType → FieldForm
field_form ty = (relocation_row ty).form

-- what it takes of what it names
abbrev pub taking_of : RelocationType → Taking
taking_of ty = (relocation_row ty).takes

-- it may stand in the data section too
abbrev pub may_stand_in_data : RelocationType → Bool
may_stand_in_data ty = (relocation_row ty).in_data

-- ---- what it takes

-- its index is that of a type, and not of a symbol
abbrev pub names_a_type : RelocationType → Bool
names_a_type ty = is_type (taking_of ty)

-- entries of addresses have an addend
abbrev pub has_addend : RelocationType → Bool
has_addend ty = is_address (taking_of ty)

-- it takes symbols of that kind
abbrev pub takes_kind : RelocationType → WasmSymbolKind → Bool
takes_kind ty = is_taken_of (taking_of ty)

-- the number of a global
abbrev pub is_global_index : RelocationType → Bool
is_global_index ty = is_global (taking_of ty)

-- the slot of a function in the table, or relative to the table's base
abbrev pub is_table_index : RelocationType → Bool
is_table_index ty = is_slot (taking_of ty)

-- a slot relative to the base of the table
abbrev pub is_table_relative : RelocationType → Bool
is_table_relative ty = is_slot_behind_base (taking_of ty)

-- the number of a table
abbrev pub is_table_number : RelocationType → Bool
is_table_number ty = is_table (taking_of ty)

-- an address relative to the base of the memory
abbrev pub is_memory_relative : RelocationType → Bool
is_memory_relative ty = is_behind_memory_base (taking_of ty)

-- an address that counts from the start of the memory
abbrev pub is_absolute : RelocationType → Bool
is_absolute ty = is_in_memory (taking_of ty)
