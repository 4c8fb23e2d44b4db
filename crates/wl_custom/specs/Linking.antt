-- The linking section (object file linking, version 2, "Linking Metadata Section").
use Rattle.std.specs.Prelude.{◌≡◌, ◌⊎◌, ℕ, ◌+◌, ◌==◌, true, false, if◌then◌else◌, List, [], ◌++◌, Result, Ok, Err}
use Rattle.std.specs.List.{flat_map}
use Rattle.wl_bytes.specs.Cursor.{Cursor}
use Rattle.wl_bytes.specs.Parse.{Takes, ◌>>=◌}
use Rattle.wl_bytes.specs.Leb.{IsU32}
use Rattle.wl_bytes.specs.Items.{IsByte, IsStretch}
use Rattle.wl_bytes.specs.Grammar.{Then, ThenFault, then_at, map_at}
use Rattle.wl_bytes.specs.Lists.{NumberFault, ByteFault, number_at, one_byte_at, start}
use Rattle.wl_bytes.specs.Lists.{StretchFault}
use Rattle.wl_bytes.specs.Lists.{stretch_at}
use Rattle.wl_bytes.specs.Chains.{Turns, Chain, ChainFault}
use Rattle.wl_bytes.specs.Checks.{NoFault, Seen}
use Rattle.wl_bytes.specs.declared.read_error.ReadError.{ReadError}
use Rattle.wl_bytes.specs.declared.read_error.ReadError.TheVariants.{Malformed, Unsupported}
use Rattle.wl_bytes.specs.declared.read_error.Why.TheVariants.{Repeated}
use Rattle.wl_bytes.specs.declared.read_error.Form.TheVariants.{LinkingVersion}
use Rattle.wl_custom.specs.Verdict.{Judged, JudgedFault, judged_at, Inside, InsideFault, IsHere, here_at}
use Rattle.wl_custom.specs.Infos.{SegmentInfo, AreInfos, InfosFault, infos_of, AreInits, InitsFault, inits_of}
use Rattle.wl_custom.specs.Symbols.{Symbol, AreSymbols, SymbolsFault}
use Rattle.wl_custom.specs.SymbolsReading.{symbols_of}
use Rattle.wl_custom.specs.declared.infos.WasmInitFunc.{WasmInitFunc}
use Rattle.wl_custom.specs.declared.linking.Linking.{Linking}
use Rattle.wl_custom.specs.declared.linking.SeenSubsections.{SeenSubsections}
use Rattle.wl_custom.specs.declared.linking.Subsection.{Subsection}
use Rattle.wl_custom.specs.declared.linking.Subsection.TheVariants as held
use Rattle.wl_custom.specs.declared.linking.SubsectionKind.{SubsectionKind}
use Rattle.wl_custom.specs.declared.linking.SubsectionKind.TheVariants as kind

-- ---- a subsection

-- what a subsection of that number is for: segments, 5, functions that run at the start, 6,
-- symbols, 8
abbrev pub subsection_kind : ℕ → SubsectionKind
subsection_kind n =
    if n == 5 then kind.SegmentInfo
    else if n == 6 then kind.InitFuncs
    else if n == 8 then kind.SymbolTable
    else kind.Other

-- each of the three comes once at most
abbrev pub subsection_verdict : SeenSubsections → SubsectionKind → Result (Unit {0}) ReadError
subsection_verdict seen kind.SegmentInfo =
    if seen.segment_info then Err (Malformed Repeated) else Ok tt
subsection_verdict seen kind.InitFuncs = if seen.init_funcs then Err (Malformed Repeated) else Ok tt
subsection_verdict seen kind.SymbolTable =
    if seen.symbol_table then Err (Malformed Repeated) else Ok tt
subsection_verdict seen kind.Other = Ok tt

-- a subsection that holds what its payload spells
abbrev pub HoldsAll : {X : Type 0} → (X → Subsection) → (X → List ℕ → Type 0) → Subsection → List ℕ
    → Type 0
HoldsAll {X} make spells s payload = (x : X) × (make x ≡ s) × spells x payload

-- what a subsection of a kind holds, where so many bytes of the object lie before its payload;
-- others are skipped
abbrev pub IsHeld : ℕ → SubsectionKind → Subsection → List ℕ → Type 0
IsHeld base kind.SegmentInfo = HoldsAll held.SegmentInfo AreInfos
IsHeld base kind.InitFuncs = HoldsAll held.InitFuncs AreInits
IsHeld base kind.SymbolTable = HoldsAll held.SymbolTable (AreSymbols base)
IsHeld base kind.Other = λ s payload. s ≡ held.Skipped

-- what it is to hold is at fault
abbrev pub HeldFault : ℕ → SubsectionKind → ReadError → List ℕ → Type 0
HeldFault base kind.SegmentInfo = InfosFault
HeldFault base kind.InitFuncs = InitsFault
HeldFault base kind.SymbolTable = SymbolsFault base
HeldFault base kind.Other = λ e payload. ⊥

-- what a payload holds, read by the kind of its subsection
abbrev pub held_of : ℕ → SubsectionKind → List ℕ → Result Subsection ReadError
held_of base kind.SegmentInfo payload = infos_of payload >>= λ xs. Ok (held.SegmentInfo xs)
held_of base kind.InitFuncs payload = inits_of payload >>= λ xs. Ok (held.InitFuncs xs)
held_of base kind.SymbolTable payload = symbols_of base payload >>= λ xs. Ok (held.SymbolTable xs)
held_of base kind.Other payload = Ok held.Skipped

-- its parts as they stand: number, size, the place of the payload, the payload, and what that holds
abbrev pub SubsectionParts : Type 0
SubsectionParts = ℕ × (Unit {0} × (ℕ × (ℕ × (List ℕ × Subsection))))

-- these parts stand one after the other
abbrev pub AreSubsectionParts : ℕ → SeenSubsections → ℕ → SubsectionParts → List ℕ → Type 0
AreSubsectionParts base seen =
    Then IsByte (λ n. Then (Judged (subsection_verdict seen (subsection_kind n)))
    (λ _. Then IsU32 (λ size.
    Then IsHere (λ place. Then (IsStretch size)
    (λ payload. Inside (IsHeld (base + place) (subsection_kind n)) payload)))))

-- a kind byte, a size, and so many bytes that hold it
abbrev pub IsSubsection : ℕ → SeenSubsections → ℕ → Subsection → List ℕ → Type 0
IsSubsection base seen = Seen (AreSubsectionParts base seen) (λ p. p.1.1.1.1.1)

-- the first part at fault
abbrev pub SubsectionFault : ℕ → SeenSubsections → ReadError → Cursor → Type 0
SubsectionFault base seen =
    ThenFault IsByte ByteFault (λ n. ThenFault
    (Judged (subsection_verdict seen (subsection_kind n)))
    (JudgedFault (subsection_verdict seen (subsection_kind n)))
    (λ _. ThenFault IsU32 NumberFault
    (λ size. ThenFault IsHere NoFault
    (λ place. ThenFault (IsStretch size) (StretchFault size)
    (λ payload. InsideFault (HeldFault (base + place) (subsection_kind n)) payload)))))

-- the parts of a subsection, read from a place
abbrev pub subsection_parts_at : ℕ → SeenSubsections → Cursor
    → Result (SubsectionParts × Cursor) ReadError
subsection_parts_at base seen c =
    then_at one_byte_at (λ n. then_at (judged_at (subsection_verdict seen (subsection_kind n)))
    (λ _. then_at number_at (λ size.
    then_at here_at (λ place. then_at (stretch_at size)
    (λ payload. judged_at (held_of (base + place) (subsection_kind n) payload)))))) c

-- a subsection, read from a place
unfoldable pub subsection_at : ℕ → SeenSubsections → Cursor → Result (Subsection × Cursor) ReadError
subsection_at base seen c = map_at (λ p. p.1.1.1.1.1) (subsection_parts_at base seen) c

-- ---- the section

-- the only version that is read
abbrev pub version_verdict : ℕ → Result (Unit {0}) ReadError
version_verdict version = if version == 2 then Ok tt else Err (Unsupported LinkingVersion)

-- a version, and it is read
abbrev pub IsVersion : ℕ → ℕ × Unit {0} → List ℕ → Type 0
IsVersion = Then IsU32 (λ version. Judged (version_verdict version))

-- no version stands there, or not the one that is read
abbrev pub VersionFault : ReadError → Cursor → Type 0
VersionFault = ThenFault IsU32 NumberFault (λ version. JudgedFault (version_verdict version))

-- a version, read from a place
unfoldable pub version_at : Cursor → Result ((ℕ × Unit {0}) × Cursor) ReadError
version_at c = then_at number_at (λ version. judged_at (version_verdict version)) c

-- before the first subsection
abbrev pub nothing_seen : SeenSubsections
nothing_seen = record { segment_info = false; init_funcs = false; symbol_table = false }

-- what came before, after one more
abbrev pub seen_after : SeenSubsections → Subsection → SeenSubsections
seen_after seen (held.SegmentInfo infos) = record seen { segment_info = true }
seen_after seen (held.InitFuncs functions) = record seen { init_funcs = true }
seen_after seen (held.SymbolTable symbols) = record seen { symbol_table = true }
seen_after seen held.Skipped = seen

-- what is said of segments
abbrev pub infos_in : Subsection → List SegmentInfo
infos_in (held.SegmentInfo infos) = infos
infos_in (held.InitFuncs functions) = []
infos_in (held.SymbolTable symbols) = []
infos_in held.Skipped = []

-- the functions that run at the start
abbrev pub inits_in : Subsection → List WasmInitFunc
inits_in (held.SegmentInfo infos) = []
inits_in (held.InitFuncs functions) = functions
inits_in (held.SymbolTable symbols) = []
inits_in held.Skipped = []

-- the symbols of a symbol table
abbrev pub table_in : Subsection → List Symbol
table_in (held.SegmentInfo infos) = []
table_in (held.InitFuncs functions) = []
table_in (held.SymbolTable symbols) = symbols
table_in held.Skipped = []

-- what these subsections hold
abbrev pub linking_of : List Subsection → Linking
linking_of subsections = record {
  segment_infos = flat_map infos_in subsections;
  init_funcs = flat_map inits_in subsections;
  symbols = flat_map table_in subsections;
}

-- the same with one more subsection
abbrev pub with_subsection : Linking → Subsection → Linking
with_subsection linking s = record {
  segment_infos = linking.segment_infos ++ infos_in s;
  init_funcs = linking.init_funcs ++ inits_in s;
  symbols = linking.symbols ++ table_in s;
}

-- subsections in turn, each after those before it
abbrev pub subsections_in_turn : ℕ → Turns SeenSubsections Subsection
subsections_in_turn base = record { item = IsSubsection base; next = seen_after }

-- subsections to the end of the bytes
abbrev pub AreSubsections : ℕ → List Subsection → Cursor → Cursor → Type 0
AreSubsections base subsections from to =
    Takes (Chain (subsections_in_turn base) nothing_seen) subsections from to × (to.rest ≡ [])

-- some subsections, and then one at fault
abbrev pub SubsectionsFault : ℕ → ReadError → Cursor → Type 0
SubsectionsFault base = ChainFault (subsections_in_turn base) (SubsectionFault base) nothing_seen

-- subsections to the end of the bytes hold this
abbrev pub HaveSubsections : ℕ → Cursor → Linking → Type 0
HaveSubsections base from linking =
    (subsections : List Subsection) × (last : Cursor) × AreSubsections base subsections from last
    × (linking ≡ linking_of subsections)

-- a linking section: its version, and subsections to the end; so many bytes of the object lie
-- before it
abbrev pub IsLinking : ℕ → Linking → List ℕ → Type 0
IsLinking base linking payload =
    (version : ℕ × Unit {0}) × (behind : Cursor) × Takes IsVersion version (start payload) behind
    × HaveSubsections base behind linking

-- the version is at fault, or what follows it is
abbrev pub LinkingFault : ℕ → ReadError → List ℕ → Type 0
LinkingFault base e payload = VersionFault e (start payload)
    ⊎ ((version : ℕ × Unit {0}) × (behind : Cursor) × Takes IsVersion version (start payload) behind
    × SubsectionsFault base e behind)
