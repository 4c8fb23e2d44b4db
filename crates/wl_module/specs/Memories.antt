-- The memory section and the data count section (core specification, "Memory Section" and "Data
-- Count Section").
use Rattle.std.specs.Prelude.{ℕ, Bool, true, List, Result}
use Rattle.wl_bytes.specs.Leb.{IsU32}
use Rattle.wl_module.specs.declared.limits.MemoryType.{MemoryType}
use Rattle.wl_bytes.specs.declared.read_error.Form.TheVariants.{ManyMemories}
use Rattle.wl_bytes.specs.declared.read_error.ReadError.{ReadError}
use Rattle.wl_bytes.specs.declared.read_error.ReadError.TheVariants.{Unsupported}
use Rattle.wl_bytes.specs.Lists.{NumberFault, number_at, Whole, WholeFault, whole_of}
use Rattle.wl_bytes.specs.Chains.{Once, ListedOnce, ListedOnceFault, list_once_at}
use Rattle.wl_module.specs.Limits.{IsMemoryType, MemoryTypeFault, memory_type_at}

-- ---- memories

-- one memory at most, and none where one is imported
abbrev pub memory_once : Bool → Once MemoryType
memory_once imported = record { sort = λ _. true; seen = imported; many = Unsupported ManyMemories }

-- the payload is a list of these memories, one at most, and none where the flag says that one is
-- imported
abbrev pub AreMemories : Bool → List MemoryType → List ℕ → Type 0
AreMemories imported = Whole (ListedOnce IsMemoryType (memory_once imported))

-- what is wrong with a payload that is no such list
abbrev pub MemoriesFault : Bool → ReadError → List ℕ → Type 0
MemoriesFault imported = WholeFault (ListedOnce IsMemoryType (memory_once imported))
    (ListedOnceFault IsMemoryType MemoryTypeFault (memory_once imported))

-- the memories of a whole payload
abbrev pub memories_of : Bool → List ℕ → Result (List MemoryType) ReadError
memories_of imported payload = whole_of (list_once_at memory_type_at (memory_once imported)) payload

-- ---- the data count

-- the payload is a number
abbrev pub IsDataCount : ℕ → List ℕ → Type 0
IsDataCount = Whole IsU32

-- what is wrong with a payload that is no number
abbrev pub DataCountFault : ReadError → List ℕ → Type 0
DataCountFault = WholeFault IsU32 NumberFault

-- the number of a whole payload
abbrev pub data_count_of : List ℕ → Result ℕ ReadError
data_count_of payload = whole_of number_at payload
