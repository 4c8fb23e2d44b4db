-- Limits of memories and tables (core specification, "Limits", "Memory Types" and "Table Types").
use Rattle.std.specs.Prelude.{ℕ, ◌+◌, ◌/◌, ◌%◌, ◌==◌, ◌||◌, ◌&&◌, not, Bool, true, false, nat_lt, nat_le, if◌then◌else◌, List, [], ◌∷◌, Option, Some, None, is_some, Result}
use Rattle.wl_bytes.specs.Cursor.{Cursor}
use Rattle.wl_bytes.specs.Leb.{IsU32}
use Rattle.wl_bytes.specs.Grammar.{Then, ThenFault, then_at, map_at}
use Rattle.wl_module.specs.declared.limits.Limits.{Limits}
use Rattle.wl_module.specs.declared.limits.LimitsFlags.{LimitsFlags}
use Rattle.wl_module.specs.declared.limits.MemoryType.{MemoryType}
use Rattle.wl_module.specs.declared.limits.TableType.{TableType}
use Rattle.wl_module.specs.declared.limits.TheConstants.{MAX_PAGES}
use Rattle.wl_bytes.specs.declared.read_error.Why.TheVariants.{BadByte, BadLimits}
use Rattle.wl_bytes.specs.declared.read_error.Form.TheVariants.{Memory64, PageSize, TableForm, TableType as OtherElements}
use Rattle.wl_bytes.specs.declared.read_error.ReadError.{ReadError}
use Rattle.wl_bytes.specs.declared.read_error.ReadError.TheVariants.{Malformed, Unsupported}
use Rattle.wl_bytes.specs.Lists.{NumberFault, number_at, IsCoded, CodedFault, coded_at}
use Rattle.wl_bytes.specs.Checks.{Where, WhereFault, unless, where_at, When, WhenFault, when_at, Seen}

-- ---- the flags

-- bit 0 says that there is a maximum, and bit 1 that threads share it
abbrev pub flags_code : LimitsFlags → ℕ
flags_code f = (if f.has_maximum then 1 else 0) + (if f.shared then 2 else 0)

-- all that the two bits can say
abbrev pub all_flags : List LimitsFlags
all_flags =
    record { has_maximum = false; shared = false } ∷ record { has_maximum = true; shared = false }
    ∷ record { has_maximum = false; shared = true } ∷ record { has_maximum = true; shared = true }
    ∷ []

-- another byte of a memory: bit 2 says that its addresses have 64 bits, bit 3 that its pages have
-- their own size, and higher ones say nothing
abbrev pub memory_flags_error : ℕ → ReadError
memory_flags_error b =
    if nat_lt b 16 then (if b / 4 % 2 == 1 then Unsupported Memory64 else Unsupported PageSize)
    else Malformed BadByte

-- another byte of a table
abbrev pub table_flags_error : ℕ → ReadError
table_flags_error b = if nat_lt b 16 then Unsupported TableForm else Malformed BadByte

-- a memory's flags
abbrev pub IsMemoryFlags : ℕ → LimitsFlags → List ℕ → Type 0
IsMemoryFlags = IsCoded flags_code

-- there is no byte, or another one
abbrev pub MemoryFlagsFault : ReadError → Cursor → Type 0
MemoryFlagsFault = CodedFault flags_code memory_flags_error

-- the next flags
unfoldable pub memory_flags_at : Cursor → Result (LimitsFlags × Cursor) ReadError
memory_flags_at c = coded_at flags_code all_flags memory_flags_error c

-- tables aren't shared
abbrev pub is_own : LimitsFlags → Bool
is_own f = not f.shared

-- a table's flags
abbrev pub IsTableFlags : ℕ → LimitsFlags → List ℕ → Type 0
IsTableFlags = Where (IsCoded flags_code) is_own

-- there is no byte, or another one
abbrev pub TableFlagsFault : ReadError → Cursor → Type 0
TableFlagsFault =
    WhereFault (IsCoded flags_code) (CodedFault flags_code table_flags_error)
    (unless is_own (Unsupported TableForm))

-- the next flags
unfoldable pub table_flags_at : Cursor → Result (LimitsFlags × Cursor) ReadError
table_flags_at c =
    where_at (coded_at flags_code all_flags table_flags_error) is_own (Unsupported TableForm) c

-- ---- the limits

-- what was read as limits
abbrev pub limits_from : LimitsFlags × (ℕ × Option ℕ) → Limits
limits_from p = record { minimum = p.1.0; maximum = p.1.1; shared = p.0.shared }

-- flags, the minimum, and the maximum where the flags say that there is one
abbrev pub IsLimits : (ℕ → LimitsFlags → List ℕ → Type 0) → ℕ → Limits → List ℕ → Type 0
IsLimits flags = Seen (Then flags (λ f. Then IsU32 (λ _. When IsU32 f.has_maximum))) limits_from

-- the first of the three that is at fault
abbrev pub LimitsFault : (ℕ → LimitsFlags → List ℕ → Type 0) → (ReadError → Cursor → Type 0)
    → ReadError → Cursor → Type 0
LimitsFault flags wrong =
    ThenFault flags wrong (λ f. ThenFault IsU32 NumberFault
    (λ _. WhenFault NumberFault f.has_maximum))

-- the next sizes, after such flags
unfoldable pub sizes_at : LimitsFlags → Cursor → Result ((ℕ × Option ℕ) × Cursor) ReadError
sizes_at f c = then_at number_at (λ _. when_at number_at f.has_maximum) c

-- the next limits
abbrev pub limits_at : (Cursor → Result (LimitsFlags × Cursor) ReadError) → Cursor
    → Result (Limits × Cursor) ReadError
limits_at flags c = map_at limits_from (then_at flags sizes_at) c

-- the maximum isn't below the minimum
abbrev pub is_ordered : ℕ → Option ℕ → Bool
is_ordered minimum None = true
is_ordered minimum (Some maximum) = nat_le minimum maximum

-- no size is above n
abbrev pub are_within : ℕ → ℕ → Option ℕ → Bool
are_within n minimum None = nat_le minimum n
are_within n minimum (Some maximum) = nat_le minimum n && nat_le maximum n

-- limits that can be
abbrev pub limits_fit : Limits → Bool
limits_fit l = is_ordered l.minimum l.maximum

-- a memory's limits that can be: not above the greatest size, and with a maximum where it is shared
abbrev pub memory_limits_fit : Limits → Bool
memory_limits_fit l =
    limits_fit l && (are_within MAX_PAGES l.minimum l.maximum && (not l.shared || is_some l.maximum))

-- ---- memories

-- the memory with these limits
abbrev pub memory_of : Limits → MemoryType
memory_of l = record { initial = l.minimum; maximum = l.maximum; shared = l.shared }

-- limits that a memory can have
abbrev pub IsMemoryType : ℕ → MemoryType → List ℕ → Type 0
IsMemoryType = Seen (Where (IsLimits IsMemoryFlags) memory_limits_fit) memory_of

-- the limits are at fault, or they stand there and can't be
abbrev pub MemoryTypeFault : ReadError → Cursor → Type 0
MemoryTypeFault =
    WhereFault (IsLimits IsMemoryFlags) (LimitsFault IsMemoryFlags MemoryFlagsFault)
    (unless memory_limits_fit (Malformed BadLimits))

-- the next memory
unfoldable pub memory_type_at : Cursor → Result (MemoryType × Cursor) ReadError
memory_type_at c =
    map_at memory_of (where_at (limits_at memory_flags_at) memory_limits_fit (Malformed BadLimits))
    c

-- ---- tables

-- the byte of the elements that a table can have: references to functions
abbrev pub elements_code : Unit {0} → ℕ
elements_code _ = 0x70

-- the table with these limits
abbrev pub table_of : Unit {0} × Limits → TableType
table_of p = record { initial = p.1.minimum; maximum = p.1.maximum }

-- the type of the elements, and limits
abbrev pub IsTableType : ℕ → TableType → List ℕ → Type 0
IsTableType =
    Seen (Then (IsCoded elements_code) (λ _. Where (IsLimits IsTableFlags) limits_fit)) table_of

-- the elements are at fault, or the limits are, or they can't be
abbrev pub TableTypeFault : ReadError → Cursor → Type 0
TableTypeFault =
    ThenFault (IsCoded elements_code) (CodedFault elements_code (λ _. Unsupported OtherElements))
    (λ _. WhereFault (IsLimits IsTableFlags) (LimitsFault IsTableFlags TableFlagsFault)
    (unless limits_fit (Malformed BadLimits)))

-- the next element type
unfoldable pub elements_at : Cursor → Result (Unit {0} × Cursor) ReadError
elements_at c = coded_at elements_code (tt ∷ []) (λ _. Unsupported OtherElements) c

-- the next table
unfoldable pub table_type_at : Cursor → Result (TableType × Cursor) ReadError
table_type_at c =
    map_at table_of (then_at elements_at
    (λ _. where_at (limits_at table_flags_at) limits_fit (Malformed BadLimits))) c
