-- What a linking section says of segments, and of functions that run at the start (object file
-- linking, version 2, "Segment Info Subsection" and "Init Funcs Subsection").
use Rattle.std.specs.Prelude.{ℕ, ◌==◌, ◌^◌, Bool, not, nat_le, List, Result}
use Rattle.std.specs.Int.RustNames.{bit_and}
use Rattle.wl_bytes.specs.Cursor.{Cursor}
use Rattle.wl_bytes.specs.Leb.{IsU32}
use Rattle.wl_bytes.specs.Items.{IsName}
use Rattle.wl_bytes.specs.Grammar.{Then, ThenFault, then_at, map_at}
use Rattle.wl_bytes.specs.Lists.{NumberFault, number_at, WordFault, word_at, Listed, ListedFault, list_at, Whole, WholeFault, whole_of}
use Rattle.wl_bytes.specs.Checks.{Where, WhereFault, unless, where_at, Seen}
use Rattle.wl_bytes.specs.declared.read_error.Why.TheVariants.{BadAlignment}
use Rattle.wl_bytes.specs.declared.read_error.ReadError.{ReadError}
use Rattle.wl_bytes.specs.declared.read_error.ReadError.TheVariants.{Malformed}
use Rattle.wl_custom.specs.declared.infos.WasmInitFunc.{WasmInitFunc}

-- ---- segments

-- what is said of a segment: its name, its alignment in bytes, its flags
pub record SegmentInfo : Type 0 where
  pub name : List ℕ
  pub alignment : ℕ
  pub flags : ℕ

-- it holds data of each thread: TLS, 2
abbrev pub is_tls : SegmentInfo → Bool
is_tls i = not (bit_and i.flags 2 == 0)

-- an exponent is 31 at most
abbrev pub is_exponent : ℕ → Bool
is_exponent n = nat_le n 31

-- a power of two
abbrev pub two_to : ℕ → ℕ
two_to n = 2 ^ n

-- an alignment, of which the exponent is spelled
abbrev pub IsAlignment : ℕ → ℕ → List ℕ → Type 0
IsAlignment = Seen (Where IsU32 is_exponent) two_to

-- no exponent stands there, or one that is too great
abbrev pub AlignmentFault : ReadError → Cursor → Type 0
AlignmentFault = WhereFault IsU32 NumberFault (unless is_exponent (Malformed BadAlignment))

-- the next alignment
unfoldable pub alignment_at : Cursor → Result (ℕ × Cursor) ReadError
alignment_at c = map_at two_to (where_at number_at is_exponent (Malformed BadAlignment)) c

-- a name, an alignment and flags
abbrev pub IsInfo : ℕ → SegmentInfo → List ℕ → Type 0
IsInfo place i text =
    Then IsName (λ _. Then IsAlignment (λ _. IsU32)) place (i.name, (i.alignment, i.flags)) text

-- the first of the three at fault
abbrev pub InfoFault : ReadError → Cursor → Type 0
InfoFault =
    ThenFault IsName WordFault (λ _. ThenFault IsAlignment AlignmentFault (λ _. NumberFault))

-- what was read of a segment
abbrev pub info_from : List ℕ × (ℕ × ℕ) → SegmentInfo
info_from p = record { name = p.0; alignment = p.1.0; flags = p.1.1 }

-- what is said of the next segment
unfoldable pub info_at : Cursor → Result (SegmentInfo × Cursor) ReadError
info_at c = map_at info_from (then_at word_at (λ _. then_at alignment_at (λ _. number_at))) c

-- a whole list of such infos
abbrev pub AreInfos : List SegmentInfo → List ℕ → Type 0
AreInfos = Whole (Listed IsInfo)

-- what is wrong with a payload that is none
abbrev pub InfosFault : ReadError → List ℕ → Type 0
InfosFault = WholeFault (Listed IsInfo) (ListedFault IsInfo InfoFault)

-- the infos of a whole payload
abbrev pub infos_of : List ℕ → Result (List SegmentInfo) ReadError
infos_of payload = whole_of (list_at info_at) payload

-- ---- functions

-- a priority and the number of a symbol
abbrev pub IsInit : ℕ → WasmInitFunc → List ℕ → Type 0
IsInit place f text = Then IsU32 (λ _. IsU32) place (f.priority, f.symbol_index) text

-- one of the two is at fault
abbrev pub InitFault : ReadError → Cursor → Type 0
InitFault = ThenFault IsU32 NumberFault (λ _. NumberFault)

-- what was read as a function
abbrev pub init_from : ℕ × ℕ → WasmInitFunc
init_from p = record { priority = p.0; symbol_index = p.1 }

-- the next function
unfoldable pub init_at : Cursor → Result (WasmInitFunc × Cursor) ReadError
init_at c = map_at init_from (then_at number_at (λ _. number_at)) c

-- a whole list of such functions
abbrev pub AreInits : List WasmInitFunc → List ℕ → Type 0
AreInits = Whole (Listed IsInit)

-- what is wrong with a payload that is none
abbrev pub InitsFault : ReadError → List ℕ → Type 0
InitsFault = WholeFault (Listed IsInit) (ListedFault IsInit InitFault)

-- the functions of a whole payload
abbrev pub inits_of : List ℕ → Result (List WasmInitFunc) ReadError
inits_of payload = whole_of (list_at init_at) payload
