-- The lines of a plan, and its listing.
use Rattle.std.specs.Prelude.{ℕ, ◌+◌, ◌^◌, ◌≤◌, List, [], ◌∷◌, ◌++◌, map, length, Option, Some, None, if◌then◌else◌}
use Rattle.std.specs.List.{flat_map, count_by, AllByRecursion}
use Rattle.wl_module.specs.Bodies.{Body}
use Rattle.wl_module.specs.Exports.{Exported}
use Rattle.wl_module.specs.Types.{FunctionType}
use Rattle.wl_module.specs.declared.limits.MemoryType.{MemoryType}
use Rattle.wl_module.specs.declared.limits.TableType.{TableType}
use Rattle.wl_custom.specs.Debug.{DebugInput}
use Rattle.wl_symbols.specs.declared.linker_symbol.WasmLinkerSymbol.{WasmLinkerSymbol}
use Rattle.wl_symbols.specs.declared.linker_symbol.WasmLinkerSymbol.TheVariants as linker
use Rattle.wl_data.specs.Segments.{SegmentLayout}
use Rattle.wl_check.specs.Ranges.{IsSmall}
use Rattle.wl_check.specs.Texts.{line_text}
use Rattle.wl_check.specs.declared.line.Line.{Line}
use Rattle.wl_check.specs.declared.line.Line.TheVariants.{Version, OutputType, Import, Function, Body as BodyLine, Global, Memory, Table, Slot, Segment, Export, Start, Fix, Feature, Debug, End}
use Rattle.wl_check.specs.declared.line.FunctionSource.{FunctionSource}
use Rattle.wl_check.specs.declared.line.FunctionSource.TheVariants as source
use Rattle.wl_check.specs.declared.line.MadeFunction.{MadeFunction}
use Rattle.wl_check.specs.declared.line.MadeFunction.TheVariants.{CallCtors, InitTls, InitMemory}
use Rattle.wl_check.specs.declared.line.SegmentState.{SegmentState}
use Rattle.wl_check.specs.declared.line.SegmentState.TheVariants as state
use Rattle.wl_plan.specs.ObjectSegments.{ObjectSegment, segments_of_objects}
use Rattle.wl_plan.specs.Origins.{Origin, OfObject, OfLinker, OfInitMemory, OfStub, OfWrapper, PlannedFunction}
use Rattle.wl_plan.specs.PlannedImports.{PlannedImport, is_function_import, is_global_import}
use Rattle.wl_plan.specs.declared.layout.LinkPlan.{LinkPlan}
use Rattle.wl_plan.specs.declared.layout.PlannedGlobal.{PlannedGlobal}

-- ---- the line of a thing

-- a line for each thing, with its number; that of the first is given
abbrev pub numbered_lines : {X : Type 0} → (ℕ → X → Line) → ℕ → List X → List Line
numbered_lines line first [] = []
numbered_lines line first (x ∷ xs) = line first x ∷ numbered_lines line (first + 1) xs

-- an output type: its number, its parameters, its results
abbrev pub type_line : ℕ → FunctionType → Line
type_line i t = OutputType i t

-- an import: its two names, and what it is
abbrev pub import_line : PlannedImport → Line
import_line i = Import i.origin i.name i.entity

-- which of the functions that the linker makes under a name it is: no other name is a function's
abbrev pub made_function : WasmLinkerSymbol → MadeFunction
made_function linker.InitTls = InitTls
made_function m = CallCtors

-- where a function is from
abbrev pub source_of : Origin → FunctionSource
source_of (OfObject object unit) = source.Object object unit
source_of (OfLinker m) = source.Made (made_function m)
source_of OfInitMemory = source.Made InitMemory
source_of (OfStub name) = source.Stub name
source_of (OfWrapper name) = source.Wrap name

-- a function: its number, its type's, and where it is from
abbrev pub function_line : ℕ → PlannedFunction → Line
function_line i f = Function i f.type_index (source_of f.origin)

-- a body: its number, and its bytes
abbrev pub body_line : ℕ → Body → Line
body_line i b = BodyLine i b.bytes

-- a global: its number, its type, the bytes of its first value, and where it is from
abbrev pub global_line : ℕ → PlannedGlobal → Line
global_line i g = Global i g.global.ty g.global.body g.origin

-- the memory, where it isn't imported
abbrev pub memory_lines : Option MemoryType → List Line
memory_lines None = []
memory_lines (Some m) = Memory m ∷ []

-- the table with its size, where there is one
abbrev pub table_lines : Option TableType → List Line
table_lines None = []
table_lines (Some t) = Table t.initial ∷ []

-- a slot of the table, and the function that it holds
abbrev pub slot_line : ℕ → ℕ → Line
slot_line slot function = Slot slot function

-- where a segment goes: into the block of each thread, or into the memory, copied by the first
-- thread or put there when the module starts; or nowhere by itself
abbrev pub state_of : SegmentLayout → SegmentState
state_of l =
    if l.tls_template then state.Tls l.output_memory_offset
    else if l.shared_init then state.Shared l.output_memory_offset
    else if l.passive then state.Passive
    else state.Active l.output_memory_offset

-- a segment: its number, its object and its number there, where it goes, and how many bytes it has
abbrev pub segment_line : ℕ → ObjectSegment → Line
segment_line i s =
    Segment i s.object s.layout.segment_index (state_of s.layout) (length s.layout.payload)

-- an export: its name, the kind of what it leads to, and its index
abbrev pub export_line : Exported → Line
export_line e = Export e.name e.kind e.index

-- the function that runs at the start, where there is one
abbrev pub start_lines : Option ℕ → List Line
start_lines None = []
start_lines (Some f) = Start f ∷ []

-- a debug section: its object, its name, and how many bytes it has
abbrev pub debug_line : DebugInput → Line
debug_line d = Debug d.object_index d.name (length d.payload)

-- ---- the lines of a plan

-- how many functions are imported: these have the first numbers
abbrev pub first_function : LinkPlan → ℕ
first_function plan = count_by is_function_import plan.layout.imports

-- how many globals are
abbrev pub first_global : LinkPlan → ℕ
first_global plan = count_by is_global_import plan.layout.imports

-- the segments of all objects in a row
abbrev pub output_segments : LinkPlan → List ObjectSegment
output_segments plan = segments_of_objects 0 plan.layout.object_data_layouts

-- the lines of a plan, in the order of the listing
abbrev pub lines_of : LinkPlan → List Line
lines_of plan =
    (Version ∷ [])
    ++ numbered_lines type_line 0 plan.layout.output_types
    ++ map import_line plan.layout.imports
    ++ numbered_lines function_line (first_function plan) plan.layout.function_type_indices
    ++ numbered_lines body_line (first_function plan) plan.layout.function_bodies
    ++ numbered_lines global_line (first_global plan) plan.layout.globals
    ++ memory_lines plan.layout.memory
    ++ table_lines plan.layout.table
    ++ numbered_lines slot_line 1 plan.layout.element_functions
    ++ numbered_lines segment_line 0 (output_segments plan)
    ++ map export_line plan.layout.exports
    ++ start_lines plan.layout.start_function
    ++ map Fix plan.fixups
    ++ map Feature plan.layout.features
    ++ map debug_line plan.layout.debug_sections
    ++ (End ∷ [])

-- the listing of a plan: the texts of its lines, one after the other
abbrev pub listing_text : LinkPlan → List ℕ
listing_text plan = flat_map line_text (lines_of plan)

-- ---- plans whose lines have numbers in range

-- there are no more than 2 ^ 32 of them, counted from the first number on
abbrev pub HaveNumbers : {X : Type 0} → ℕ → List X → Type 0
HaveNumbers first xs = first + length xs ≤ 2 ^ 32

-- no segment has more bytes than a number of 32 bits holds
abbrev pub ArePayloadsSmall : List ObjectSegment → Type 0
ArePayloadsSmall segments =
    AllByRecursion (λ (s : ObjectSegment). IsSmall (length s.layout.payload)) segments

-- no debug section has
abbrev pub AreDebugSectionsSmall : List DebugInput → Type 0
AreDebugSectionsSmall sections =
    AllByRecursion (λ (d : DebugInput). IsSmall (length d.payload)) sections

-- The numbers that a listing counts are those of lines: each thing of a space has a number of 32
-- bits, and so have the bytes of segments and of debug sections.
pub record HasListing (plan : LinkPlan) : Type 0 where
  pub types : HaveNumbers 0 plan.layout.output_types
  pub functions : HaveNumbers (first_function plan) plan.layout.function_type_indices
  pub bodies : HaveNumbers (first_function plan) plan.layout.function_bodies
  pub globals : HaveNumbers (first_global plan) plan.layout.globals
  pub slots : HaveNumbers 1 plan.layout.element_functions
  pub segments : HaveNumbers 0 (output_segments plan)
  pub payloads : ArePayloadsSmall (output_segments plan)
  pub debug_sections : AreDebugSectionsSmall plan.layout.debug_sections
