-- The symbol table of a linking section (object file linking, version 2, "Symbol Table
-- Subsection").
use Rattle.std.specs.Prelude.{◌≡◌, ℕ, ◌+◌, ◌==◌, ◌&&◌, ◌||◌, Bool, true, false, not, if◌then◌else◌, List, [], length, Option, Some, None, Result, Ok, Err}
use Rattle.std.specs.Int.RustNames.{bit_and}
use Rattle.wl_bytes.specs.Cursor.{Cursor}
use Rattle.wl_bytes.specs.Leb.{IsU32}
use Rattle.wl_bytes.specs.Items.{IsByte}
use Rattle.wl_bytes.specs.Grammar.{Then, ThenFault}
use Rattle.wl_bytes.specs.Lists.{NumberFault, ByteFault, WordFault, Listed, ListedFault, Whole, WholeFault}
use Rattle.wl_bytes.specs.Checks.{When, WhenFault, Seen}
use Rattle.wl_bytes.specs.Words.{IsPlacedName}
use Rattle.wl_bytes.specs.declared.read_error.ReadError.{ReadError}
use Rattle.wl_bytes.specs.declared.read_error.ReadError.TheVariants.{Malformed, Unsupported}
use Rattle.wl_bytes.specs.declared.read_error.Why.TheVariants.{BadByte}
use Rattle.wl_bytes.specs.declared.read_error.Form.TheVariants.{Tag}
use Rattle.wl_custom.specs.Verdict.{Judged, JudgedFault}
use Rattle.wl_custom.specs.declared.symbols.WasmSymbolKind.{WasmSymbolKind}
use Rattle.wl_custom.specs.declared.symbols.WasmSymbolKind.TheVariants.{Func, Data, Global, Section, Event, Table}

-- A symbol as clauses see it: what it stands for; its flags; the number of that in the object;
-- where data lies in its segment, and how many bytes it has; its name, and the stretch of the
-- object's bytes in which that stands.
pub record Symbol : Type 0 where
  pub kind : WasmSymbolKind
  pub flags : ℕ
  pub index : ℕ
  pub offset : ℕ
  pub size : ℕ
  pub name : List ℕ
  pub name_range : ℕ × ℕ

-- ---- kinds

-- a function
abbrev pub is_function : WasmSymbolKind → Bool
is_function Func = true
is_function _ = false

-- data, which lies in a segment; symbols of other kinds have no offset there
abbrev pub is_data : WasmSymbolKind → Bool
is_data Data = true
is_data _ = false

-- a global
abbrev pub is_global : WasmSymbolKind → Bool
is_global Global = true
is_global _ = false

-- a table
abbrev pub is_table : WasmSymbolKind → Bool
is_table Table = true
is_table _ = false

-- ---- flags

-- these bits are set
abbrev pub has_flag : ℕ → ℕ → Bool
has_flag flags bits = bit_and flags bits == bits

-- another definition of the name comes before it: WEAK, 1
abbrev pub is_weak : Symbol → Bool
is_weak s = has_flag s.flags 1

-- other objects don't see it: LOCAL, 2
abbrev pub is_local : Symbol → Bool
is_local s = has_flag s.flags 2

-- its name isn't exported by itself: HIDDEN, 4
abbrev pub is_hidden : Symbol → Bool
is_hidden s = has_flag s.flags 4

-- the object doesn't define it: UNDEFINED, 0x10
abbrev pub is_undefined : Symbol → Bool
is_undefined s = has_flag s.flags 0x10

-- it is kept for the host: EXPORTED, 0x20
abbrev pub is_exported : Symbol → Bool
is_exported s = has_flag s.flags 0x20

-- where it is undefined, it has a name beside that of its import: EXPLICIT_NAME, 0x40
abbrev pub is_explicit_name : Symbol → Bool
is_explicit_name s = has_flag s.flags 0x40

-- it is kept though nothing refers to it: NO_STRIP, 0x80
abbrev pub is_no_strip : Symbol → Bool
is_no_strip s = has_flag s.flags 0x80

-- each thread has its own: TLS, 0x100
abbrev pub is_thread_local : Symbol → Bool
is_thread_local s = has_flag s.flags 0x100

-- ---- definitions

-- the object defines it
abbrev pub is_defined : Symbol → Bool
is_defined s = not (is_undefined s)

-- a function that the object defines
abbrev pub is_defined_function : Symbol → Bool
is_defined_function s = is_function s.kind && is_defined s

-- data that the object defines
abbrev pub is_defined_data : Symbol → Bool
is_defined_data s = is_data s.kind && is_defined s

-- defined data whose offset is its address, in no segment: ABSOLUTE, 0x200
abbrev pub is_absolute : Symbol → Bool
is_absolute s = is_defined_data s && has_flag s.flags 0x200

-- data on a segment of which each thread has a copy
abbrev pub is_thread_data : Symbol → Bool
is_thread_data s = is_defined_data s && not (is_absolute s) && is_thread_local s

-- ---- names

-- an empty name is no name
abbrev pub has_name : Symbol → Bool
has_name s = not (length s.name == 0)

-- the same symbol under a name that stands there
abbrev pub with_name : Symbol → List ℕ → ℕ × ℕ → Symbol
with_name s name range = record s { name = name; name_range = range }

-- ---- the parts of a symbol

-- the kind of that number; a tag, 4, isn't taken, and 5 is the last
abbrev pub symbol_kind_verdict : ℕ → Result WasmSymbolKind ReadError
symbol_kind_verdict kind =
    if kind == 0 then Ok Func
    else if kind == 1 then Ok Data
    else if kind == 2 then Ok Global
    else if kind == 3 then Ok Section
    else if kind == 4 then Err (Unsupported Tag)
    else if kind == 5 then Ok Table
    else Err (Malformed BadByte)

-- where a name of so many bytes stands, that many bytes past a base; an empty name stands nowhere
abbrev pub range_of : ℕ → ℕ → ℕ → ℕ × ℕ
range_of base at len = if len == 0 then (0, 0) else (base + at, base + at + len)

-- a name, with its range in the object
abbrev pub based_name : ℕ → List ℕ × ℕ → List ℕ × (ℕ × ℕ)
based_name base w = (w.0, range_of base w.1 (length w.0))

-- a name, with its range in the object
abbrev pub IsBasedName : ℕ → ℕ → List ℕ × (ℕ × ℕ) → List ℕ → Type 0
IsBasedName base place n text =
    (w : List ℕ × ℕ) × IsPlacedName place w text × (based_name base w ≡ n)

-- what follows the flags: a number, where data lies, and a name with its range
pub record SymbolDetails : Type 0 where
  pub index : ℕ
  pub offset : ℕ
  pub size : ℕ
  pub name : List ℕ
  pub name_range : ℕ × ℕ

-- the name that was found, or none
abbrev pub name_or_none : Option (List ℕ × (ℕ × ℕ)) → List ℕ × (ℕ × ℕ)
name_or_none None = ([], (0, 0))
name_or_none (Some name) = name

-- where data lies, or nowhere
abbrev pub extent_or_none : Option (ℕ × (ℕ × ℕ)) → ℕ × (ℕ × ℕ)
extent_or_none None = (0, (0, 0))
extent_or_none (Some extent) = extent

-- a symbol that the object defines has a name, and one with EXPLICIT_NAME, 0x40
abbrev pub is_named : ℕ → Bool
is_named flags = not (has_flag flags 0x10) || has_flag flags 0x40

-- data that the object defines has an extent
abbrev pub has_extent : ℕ → Bool
has_extent flags = not (has_flag flags 0x10)

-- a number and a name
abbrev pub numbered_from : ℕ × (List ℕ × (ℕ × ℕ)) → SymbolDetails
numbered_from p = record { index = p.0; offset = 0; size = 0; name = p.1.0; name_range = p.1.1 }

-- a name and where data lies: segment, offset and size
abbrev pub located_from : (List ℕ × (ℕ × ℕ)) × (ℕ × (ℕ × ℕ)) → SymbolDetails
located_from p =
    record { index = p.1.0; offset = p.1.1.0; size = p.1.1.1; name = p.0.0; name_range = p.0.1 }

-- the number of a section
abbrev pub sectioned_from : ℕ → SymbolDetails
sectioned_from n = record { index = n; offset = 0; size = 0; name = []; name_range = (0, 0) }

-- a name where there is to be one
abbrev pub IsNameWhere : ℕ → Bool → ℕ → List ℕ × (ℕ × ℕ) → List ℕ → Type 0
IsNameWhere base with_name = Seen (When (IsBasedName base) with_name) name_or_none

-- three numbers: a segment, an offset and a size
abbrev pub IsExtent : ℕ → ℕ × (ℕ × ℕ) → List ℕ → Type 0
IsExtent = Then IsU32 (λ _. Then IsU32 (λ _. IsU32))

-- what is wrong where they don't stand
abbrev pub ExtentFault : ReadError → Cursor → Type 0
ExtentFault = ThenFault IsU32 NumberFault (λ _. ThenFault IsU32 NumberFault (λ _. NumberFault))

-- three numbers where they are to be
abbrev pub IsExtentWhere : Bool → ℕ → ℕ × (ℕ × ℕ) → List ℕ → Type 0
IsExtentWhere defined = Seen (When IsExtent defined) extent_or_none

-- an index, and a name where the symbol has one
abbrev pub IsNumbered : ℕ → ℕ → ℕ → SymbolDetails → List ℕ → Type 0
IsNumbered base flags = Seen (Then IsU32 (λ _. IsNameWhere base (is_named flags))) numbered_from

-- a name, and where the data lies where the object defines it
abbrev pub IsLocated : ℕ → ℕ → ℕ → SymbolDetails → List ℕ → Type 0
IsLocated base flags =
    Seen (Then (IsBasedName base) (λ _. IsExtentWhere (has_extent flags))) located_from

-- what follows the flags is read under: how many bytes of the object lie before those of the
-- table, and the flags
pub record SymbolContext : Type 0 where
  pub base : ℕ
  pub flags : ℕ

-- the two together
abbrev pub symbol_context : ℕ → ℕ → SymbolContext
symbol_context base flags = record { base = base; flags = flags }

-- what follows the flags of a symbol of that kind
abbrev pub IsDetails : WasmSymbolKind → SymbolContext → ℕ → SymbolDetails → List ℕ → Type 0
IsDetails Func context = IsNumbered context.base context.flags
IsDetails Data context = IsLocated context.base context.flags
IsDetails Global context = IsNumbered context.base context.flags
IsDetails Section context = Seen IsU32 sectioned_from
IsDetails Event context = Seen IsU32 sectioned_from
IsDetails Table context = IsNumbered context.base context.flags

-- the index is at fault, or the name
abbrev pub NumberedFault : ℕ → ReadError → Cursor → Type 0
NumberedFault flags = ThenFault IsU32 NumberFault (λ _. WhenFault WordFault (is_named flags))

-- the name is at fault, or one of the three numbers after it
abbrev pub LocatedFault : ℕ → ℕ → ReadError → Cursor → Type 0
LocatedFault base flags =
    ThenFault (IsBasedName base) WordFault (λ _. WhenFault ExtentFault (has_extent flags))

-- the first of them at fault
abbrev pub DetailsFault : WasmSymbolKind → SymbolContext → ReadError → Cursor → Type 0
DetailsFault Func context = NumberedFault context.flags
DetailsFault Data context = LocatedFault context.base context.flags
DetailsFault Global context = NumberedFault context.flags
DetailsFault Section context = NumberFault
DetailsFault Event context = NumberFault
DetailsFault Table context = NumberedFault context.flags

-- ---- symbols

-- the parts of a symbol as they stand: its kind, its flags, and what follows them
abbrev pub SymbolParts : Type 0
SymbolParts = ℕ × (WasmSymbolKind × (ℕ × SymbolDetails))

-- the symbol of these parts
abbrev pub symbol_of : SymbolParts → Symbol
symbol_of (byte, (kind, (flags, details))) = record {
  kind = kind;
  flags = flags;
  index = details.index;
  offset = details.offset;
  size = details.size;
  name = details.name;
  name_range = details.name_range;
}

-- a kind byte, flags, and what that kind has with these flags
abbrev pub AreParts : ℕ → ℕ → SymbolParts → List ℕ → Type 0
AreParts base =
    Then IsByte (λ byte. Then (Judged (symbol_kind_verdict byte))
    (λ kind. Then IsU32 (λ flags. IsDetails kind (symbol_context base flags))))

-- a symbol, where so many bytes of the object lie before those of the table
abbrev pub IsSymbol : ℕ → ℕ → Symbol → List ℕ → Type 0
IsSymbol base = Seen (AreParts base) symbol_of

-- the first part at fault
abbrev pub SymbolFault : ℕ → ReadError → Cursor → Type 0
SymbolFault base = ThenFault IsByte ByteFault (λ byte.
    ThenFault (Judged (symbol_kind_verdict byte)) (JudgedFault (symbol_kind_verdict byte)) (λ kind.
    ThenFault IsU32 NumberFault (λ flags. DetailsFault kind (symbol_context base flags))))

-- a whole symbol table
abbrev pub AreSymbols : ℕ → List Symbol → List ℕ → Type 0
AreSymbols base = Whole (Listed (IsSymbol base))

-- the first thing at fault in a symbol table
abbrev pub SymbolsFault : ℕ → ReadError → List ℕ → Type 0
SymbolsFault base =
    WholeFault (Listed (IsSymbol base)) (ListedFault (IsSymbol base) (SymbolFault base))
