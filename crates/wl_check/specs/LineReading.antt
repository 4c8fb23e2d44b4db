-- How a line is read from the front of a text: what it begins with, and a row for each kind.
use Rattle.std.specs.Prelude.{ℕ, ℤ, Bool, Option, Some, None, List, [], ◌∷◌, codes}
use Rattle.wl_module.specs.declared.types.ValType.{ValType}
use Rattle.wl_module.specs.declared.globals.GlobalType.{GlobalType}
use Rattle.wl_module.specs.declared.limits.MemoryType.{MemoryType}
use Rattle.wl_module.specs.declared.imports.ExternalKind.{ExternalKind}
use Rattle.wl_module.specs.declared.imports.ExternalKind.TheVariants as external
use Rattle.wl_custom.specs.RelocationTypes.{type_name, relocation_types}
use Rattle.wl_custom.specs.declared.relocation_type.RelocationType.{RelocationType}
use Rattle.wl_text.specs.Names.{kind_name}
use Rattle.wl_check.specs.declared.kinds.LineKind.{LineKind}
use Rattle.wl_check.specs.declared.kinds.LineKind.TheVariants as kind
use Rattle.wl_check.specs.declared.kinds.SourceKind.{SourceKind}
use Rattle.wl_check.specs.declared.kinds.SourceKind.TheVariants as source_kind
use Rattle.wl_check.specs.declared.kinds.OriginKind.{OriginKind}
use Rattle.wl_check.specs.declared.kinds.OriginKind.TheVariants as origin_kind
use Rattle.wl_check.specs.declared.kinds.StateKind.{StateKind}
use Rattle.wl_check.specs.declared.kinds.StateKind.TheVariants as state_kind
use Rattle.wl_check.specs.declared.line.Line.{Line}
use Rattle.wl_check.specs.declared.line.Line.TheVariants.{Version, OutputType, Import, Function, Body, Global, Memory, Table, Slot, Segment, Export, Start, Fix, Feature, Debug, End}
use Rattle.wl_output.specs.declared.entities.OutputImportEntity.{OutputImportEntity}
use Rattle.wl_output.specs.declared.entities.OutputImportEntity.TheVariants as entity
use Rattle.wl_check.specs.declared.line.FunctionSource.{FunctionSource}
use Rattle.wl_check.specs.declared.line.FunctionSource.TheVariants as source
use Rattle.wl_check.specs.declared.line.MadeFunction.{MadeFunction}
use Rattle.wl_check.specs.declared.line.MadeFunction.TheVariants.{CallCtors, InitTls, InitMemory}
use Rattle.wl_output.specs.declared.entities.GlobalOrigin.{GlobalOrigin}
use Rattle.wl_output.specs.declared.entities.GlobalOrigin.TheVariants as origin
use Rattle.wl_output.specs.declared.entities.MadeGlobal.{MadeGlobal}
use Rattle.wl_output.specs.declared.entities.MadeGlobal.TheVariants.{MemoryBase, TableBase, StackPointer, TlsBase, TlsSize, TlsAlign, Address, GotMem, GotFunc, Data}
use Rattle.wl_check.specs.declared.line.SegmentState.{SegmentState}
use Rattle.wl_check.specs.declared.line.SegmentState.TheVariants as state
use Rattle.wl_symbols.specs.declared.relocated.FixupPlace.{FixupPlace}
use Rattle.wl_symbols.specs.declared.relocated.FixupPlace.TheVariants as place
use Rattle.wl_output.specs.declared.fixups.FixupTo.{FixupTo}
use Rattle.wl_output.specs.declared.fixups.FixupTo.TheVariants.{Value, Deferred}
use Rattle.wl_output.specs.declared.fixups.Fixup.{Fixup}
use Rattle.wl_check.specs.Texts.{blank, newline, made_function_name, made_global_name, place_name}
use Rattle.wl_check.specs.Reading.{then_at, seen_at, word_at, behind_at, ended_at, either_at, flag_at, case_at, choice_at, number_at, signed_at, hex_at, name_at, value_type_at, types_at}

-- ---- pieces

-- 32 bits, and a blank
abbrev pub small_at : List ℕ → Option (ℕ × List ℕ)
small_at = number_at 32 blank

-- 64 bits, and a blank
abbrev pub large_at : List ℕ → Option (ℕ × List ℕ)
large_at = number_at 64 blank

-- 32 bits at the end of a line
abbrev pub last_at : List ℕ → Option (ℕ × List ℕ)
last_at = number_at 32 newline

-- a number after a word
abbrev pub object_at : List ℕ → Option (ℕ × List ℕ)
object_at = behind_at (codes "object ") large_at

-- ---- types

-- the type of a global, with the two words for whether it can change
abbrev pub global_type_at : List ℕ → List ℕ → List ℕ → Option (GlobalType × List ℕ)
global_type_at off on =
    seen_at (λ (p : ValType × Bool). record { content_type = p.0; mutable = p.1 })
    (then_at (ended_at blank value_type_at) (flag_at off on))

-- the greatest size of a memory
abbrev pub maximum_at : List ℕ → Option (Option ℕ × List ℕ)
maximum_at = either_at (codes "- ") (λ rest. Some (None, rest)) (seen_at Some large_at)

-- a memory
unfoldable pub memory_at : List ℕ → Option (MemoryType × List ℕ)
memory_at bytes =
    seen_at (λ (p : ℕ × (Option ℕ × Bool)). record { initial = p.0; maximum = p.1.0; shared = p.1.1 })
    (then_at large_at (then_at maximum_at (flag_at (codes "-\n") (codes "shared\n")))) bytes

-- ---- where things are from, and where they go

-- the functions that the linker makes
abbrev pub made_functions : List MadeFunction
made_functions = CallCtors ∷ InitTls ∷ InitMemory ∷ []

-- what the source of a function begins with
abbrev pub source_word : SourceKind → List ℕ
source_word source_kind.Object = codes "object "
source_word source_kind.Made = codes "made "
source_word source_kind.Stub = codes "stub "
source_word source_kind.Wrap = codes "wrap "

abbrev pub source_kinds : List SourceKind
source_kinds =
    source_kind.Object ∷ source_kind.Made ∷ source_kind.Stub ∷ source_kind.Wrap ∷ []

-- the number of an object, and that of a thing in it, which ends the line
abbrev pub unit_at : List ℕ → Option ((ℕ × ℕ) × List ℕ)
unit_at = then_at large_at (behind_at (codes "unit ") last_at)

abbrev pub source_body : SourceKind → List ℕ → Option (FunctionSource × List ℕ)
source_body source_kind.Object = seen_at (λ (p : ℕ × ℕ). source.Object p.0 p.1) unit_at
source_body source_kind.Made =
    seen_at source.Made (ended_at newline (case_at made_function_name made_functions))
source_body source_kind.Stub = seen_at source.Stub (name_at newline)
source_body source_kind.Wrap = seen_at source.Wrap (name_at newline)

-- where a function is from
unfoldable pub source_at : List ℕ → Option (FunctionSource × List ℕ)
source_at bytes = choice_at source_word source_kinds source_body bytes

-- what globals that the linker makes stand for
abbrev pub made_globals : List MadeGlobal
made_globals =
    MemoryBase
    ∷ TableBase
    ∷ StackPointer
    ∷ TlsBase
    ∷ TlsSize
    ∷ TlsAlign
    ∷ Address
    ∷ GotMem
    ∷ GotFunc
    ∷ Data
    ∷ []

-- what the origin of a global begins with
abbrev pub origin_word : OriginKind → List ℕ
origin_word origin_kind.Object = codes "object "
origin_word origin_kind.Made = codes "made "

abbrev pub origin_kinds : List OriginKind
origin_kinds = origin_kind.Object ∷ origin_kind.Made ∷ []

abbrev pub origin_body : OriginKind → List ℕ → Option (GlobalOrigin × List ℕ)
origin_body origin_kind.Object = seen_at (λ (p : ℕ × ℕ). origin.Object p.0 p.1) unit_at
origin_body origin_kind.Made =
    seen_at origin.Made (ended_at newline (case_at made_global_name made_globals))

-- where a global is from
unfoldable pub origin_at : List ℕ → Option (GlobalOrigin × List ℕ)
origin_at bytes = choice_at origin_word origin_kinds origin_body bytes

-- what a segment's place begins with
abbrev pub state_word : StateKind → List ℕ
state_word state_kind.Active = codes "active "
state_word state_kind.Shared = codes "shared "
state_word state_kind.Tls = codes "tls "
state_word state_kind.Passive = codes "passive -"

abbrev pub state_kinds : List StateKind
state_kinds = state_kind.Active ∷ state_kind.Shared ∷ state_kind.Tls ∷ state_kind.Passive ∷ []

abbrev pub state_body : StateKind → List ℕ → Option (SegmentState × List ℕ)
state_body state_kind.Active = seen_at state.Active small_at
state_body state_kind.Shared = seen_at state.Shared small_at
state_body state_kind.Tls = seen_at state.Tls small_at
state_body state_kind.Passive = seen_at (λ _. state.Passive) (word_at (codes " "))

-- where a segment goes
unfoldable pub state_at : List ℕ → Option (SegmentState × List ℕ)
state_at bytes = choice_at state_word state_kinds state_body bytes

-- what the field of a relocation lies in
abbrev pub places : List FixupPlace
places = place.Code ∷ place.Segment ∷ []

-- what a field takes
unfoldable pub to_at : List ℕ → Option (FixupTo × List ℕ)
to_at bytes =
    either_at (codes "deferred ") (seen_at Deferred (signed_at newline))
    (seen_at (λ (p : ℕ × ℤ). Value p.0 p.1) (then_at small_at (signed_at newline))) bytes

-- the kinds of what is exported
abbrev pub export_kinds : List ExternalKind
export_kinds =
    external.Func ∷ external.Table ∷ external.Memory ∷ external.Global ∷ []

-- a relocation, with what its field takes
abbrev pub fixup_of : ℕ × (FixupPlace × (ℕ × (ℕ × (RelocationType × FixupTo)))) → Fixup
fixup_of p = record {
  object = p.0;
  place = p.1.0;
  unit = p.1.1.0;
  position = p.1.1.1.0;
  ty = p.1.1.1.1.0;
  to = p.1.1.1.1.1;
}

unfoldable pub fixup_at : List ℕ → Option (Fixup × List ℕ)
fixup_at bytes =
    seen_at fixup_of (then_at large_at
    (then_at (ended_at blank (case_at place_name places)) (then_at small_at (then_at small_at
    (then_at (ended_at blank (case_at type_name relocation_types)) to_at))))) bytes

-- ---- lines

-- what a line begins with
abbrev pub line_word : LineKind → List ℕ
line_word kind.Version = codes "wildplan 1"
line_word kind.OutputType = codes "type "
line_word kind.ImportFunction = codes "import func "
line_word kind.ImportGlobal = codes "import global "
line_word kind.ImportMemory = codes "import memory "
line_word kind.Function = codes "func "
line_word kind.Body = codes "body "
line_word kind.Global = codes "global "
line_word kind.Memory = codes "memory "
line_word kind.Table = codes "table "
line_word kind.Slot = codes "slot "
line_word kind.Segment = codes "segment "
line_word kind.Export = codes "export "
line_word kind.Start = codes "start "
line_word kind.Fix = codes "fix "
line_word kind.Feature = codes "feature "
line_word kind.Debug = codes "debug "
line_word kind.End = codes "end"

abbrev pub line_kinds : List LineKind
line_kinds =
    kind.Version
    ∷ kind.OutputType
    ∷ kind.ImportFunction
    ∷ kind.ImportGlobal
    ∷ kind.ImportMemory
    ∷ kind.Function
    ∷ kind.Body
    ∷ kind.Global
    ∷ kind.Memory
    ∷ kind.Table
    ∷ kind.Slot
    ∷ kind.Segment
    ∷ kind.Export
    ∷ kind.Start
    ∷ kind.Fix
    ∷ kind.Feature
    ∷ kind.Debug
    ∷ kind.End
    ∷ []

-- an import, by what follows its names
abbrev pub import_at : {X : Type 0} → (X → OutputImportEntity) → (List ℕ → Option (X × List ℕ))
    → List ℕ → Option (Line × List ℕ)
import_at {X} what read =
    seen_at (λ (p : List ℕ × (List ℕ × X)). Import p.0 p.1.0 (what p.1.1))
    (then_at (name_at blank) (then_at (name_at blank) read))

-- what follows the words of a kind
abbrev pub line_body : LineKind → List ℕ → Option (Line × List ℕ)
line_body kind.Version = seen_at (λ _. Version) (word_at (codes "\n"))
line_body kind.OutputType =
    seen_at (λ (p : ℕ × (List ValType × List ValType)).
    OutputType p.0 (record { params = p.1.0; results = p.1.1 })) (then_at small_at
    (then_at (behind_at (codes "(") types_at)
    (ended_at newline (behind_at (codes "->(") types_at))))
line_body kind.ImportFunction = import_at entity.Function last_at
line_body kind.ImportGlobal =
    import_at entity.Global (global_type_at (codes "const\n") (codes "var\n"))
line_body kind.ImportMemory = import_at entity.Memory memory_at
line_body kind.Function =
    seen_at (λ (p : ℕ × (ℕ × FunctionSource)). Function p.0 p.1.0 p.1.1)
    (then_at small_at (then_at (behind_at (codes "type ") small_at) source_at))
line_body kind.Body =
    seen_at (λ (p : ℕ × List ℕ). Body p.0 p.1) (then_at small_at (hex_at newline))
line_body kind.Global =
    seen_at (λ (p : ℕ × (GlobalType × (List ℕ × GlobalOrigin))).
    Global p.0 p.1.0 p.1.1.0 p.1.1.1) (then_at small_at
    (then_at (global_type_at (codes "const ") (codes "var "))
    (then_at (hex_at blank) origin_at)))
line_body kind.Memory = seen_at Memory memory_at
line_body kind.Table = seen_at Table (number_at 64 newline)
line_body kind.Slot = seen_at (λ (p : ℕ × ℕ). Slot p.0 p.1) (then_at small_at last_at)
line_body kind.Segment =
    seen_at (λ (p : ℕ × (ℕ × (ℕ × (SegmentState × ℕ)))).
    Segment p.0 p.1.0 p.1.1.0 p.1.1.1.0 p.1.1.1.1) (then_at small_at
    (then_at object_at (then_at (behind_at (codes "unit ") small_at)
    (then_at state_at last_at))))
line_body kind.Export =
    seen_at (λ (p : List ℕ × (ExternalKind × ℕ)). Export p.0 p.1.0 p.1.1)
    (then_at (name_at blank) (then_at (ended_at blank (case_at kind_name export_kinds)) last_at))
line_body kind.Start = seen_at Start last_at
line_body kind.Fix = seen_at Fix fixup_at
line_body kind.Feature = seen_at Feature (name_at newline)
line_body kind.Debug =
    seen_at (λ (p : ℕ × (List ℕ × ℕ)). Debug p.0 p.1.0 p.1.1)
    (then_at large_at (then_at (name_at blank) last_at))
line_body kind.End = seen_at (λ _. End) (word_at (codes "\n"))

-- a line
abbrev pub line_at : List ℕ → Option (Line × List ℕ)
line_at = choice_at line_word line_kinds line_body
