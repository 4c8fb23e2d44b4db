-- The text of each line. A piece of a line is written with the byte that ends it: so its text says
-- where it ends, and none begins another.
use Rattle.std.specs.Prelude.{ℕ, ℤ, Bool, Option, Some, None, List, [], ◌∷◌, ◌++◌, if◌then◌else◌, codes, decimal}
use Rattle.std.specs.Fmt.{signed_decimal}
use Rattle.std.specs.List.{flat_map}
use Rattle.hex.specs.Hex.{encode_lower}
use Rattle.wl_module.specs.declared.types.ValType.{ValType}
use Rattle.wl_module.specs.declared.globals.GlobalType.{GlobalType}
use Rattle.wl_module.specs.declared.limits.MemoryType.{MemoryType}
use Rattle.wl_custom.specs.RelocationTypes.{type_name}
use Rattle.wl_text.specs.Pieces.{quoted}
use Rattle.wl_text.specs.Names.{value_type_name, kind_name}
use Rattle.wl_check.specs.declared.line.Line.{Line}
use Rattle.wl_check.specs.declared.line.Line.TheVariants.{Version, OutputType, Import, Function, Body, Global, Memory, Table, Slot, Segment, Export, Start, Fix, Feature, Debug, End}
use Rattle.wl_output.specs.declared.entities.OutputImportEntity.{OutputImportEntity}
use Rattle.wl_output.specs.declared.entities.OutputImportEntity.TheVariants as entity
use Rattle.wl_check.specs.declared.line.FunctionSource.{FunctionSource}
use Rattle.wl_check.specs.declared.line.FunctionSource.TheVariants as source
use Rattle.wl_check.specs.declared.line.MadeFunction.{MadeFunction}
use Rattle.wl_check.specs.declared.line.MadeFunction.TheVariants.{CallCtors, InitTls, InitMemory}
use Rattle.wl_output.specs.declared.entities.GlobalOrigin.{GlobalOrigin}
use Rattle.wl_output.specs.declared.entities.GlobalOrigin.TheVariants as origin
use Rattle.wl_output.specs.declared.entities.MadeGlobal.{MadeGlobal}
use Rattle.wl_output.specs.declared.entities.MadeGlobal.TheVariants.{MemoryBase, TableBase, StackPointer, TlsBase, TlsSize, TlsAlign, Address, GotMem, GotFunc, Data}
use Rattle.wl_check.specs.declared.line.SegmentState.{SegmentState}
use Rattle.wl_check.specs.declared.line.SegmentState.TheVariants as state
use Rattle.wl_symbols.specs.declared.relocated.FixupPlace.{FixupPlace}
use Rattle.wl_symbols.specs.declared.relocated.FixupPlace.TheVariants as place
use Rattle.wl_output.specs.declared.fixups.Fixup.{Fixup}
use Rattle.wl_output.specs.declared.fixups.FixupTo.{FixupTo}
use Rattle.wl_output.specs.declared.fixups.FixupTo.TheVariants.{Value, Deferred}

-- ---- pieces

-- what stands between the words of a line
abbrev pub blank : ℕ
blank = 0x20

-- what ends a line
abbrev pub newline : ℕ
newline = 0x0a

-- a text, and the byte that ends it
abbrev pub ended : {X : Type 0} → (X → List ℕ) → ℕ → X → List ℕ
ended text end x = text x ++ end ∷ []

-- a number
abbrev pub number : ℕ → ℕ → List ℕ
number = ended decimal

-- a number that may be below 0
abbrev pub signed : ℕ → ℤ → List ℕ
signed = ended signed_decimal

-- a name in quotes
abbrev pub name : ℕ → List ℕ → List ℕ
name = ended quoted

-- bytes in hexadecimal
abbrev pub hex : ℕ → List ℕ → List ℕ
hex = ended encode_lower

-- one of two words
abbrev pub flag : List ℕ → List ℕ → Bool → List ℕ
flag off on b = if b then on else off

-- ---- types

-- a value type after another one
abbrev pub further_type : ValType → List ℕ
further_type t = codes "," ++ value_type_name t

-- value types with a comma between two of them, up to a bracket
abbrev pub types : List ValType → List ℕ
types [] = codes ")"
types (t ∷ ts) = value_type_name t ++ flat_map further_type ts ++ codes ")"

-- the type of a global, and whether it can change
abbrev pub global_type : GlobalType → List ℕ
global_type ty =
    ended value_type_name blank ty.content_type ++ flag (codes "const ") (codes "var ") ty.mutable

-- the greatest size of a memory, or - where it has none
abbrev pub maximum : Option ℕ → List ℕ
maximum None = codes "- "
maximum (Some n) = number blank n

-- a memory: its first size and its greatest in pages, and whether it is shared
abbrev pub memory : MemoryType → List ℕ
memory m =
    number blank m.initial ++ maximum m.maximum ++ flag (codes "-\n") (codes "shared\n") m.shared

-- ---- where things are from, and where they go

-- a function that the linker makes
abbrev pub made_function_name : MadeFunction → List ℕ
made_function_name CallCtors = codes "__wasm_call_ctors"
made_function_name InitTls = codes "__wasm_init_tls"
made_function_name InitMemory = codes "__wasm_init_memory"

-- where a function is from: the object's number, and the function's in it; or what the linker makes
-- it for
abbrev pub source_text : FunctionSource → List ℕ
source_text (source.Object object unit) =
    codes "object " ++ number blank object ++ codes "unit " ++ number newline unit
source_text (source.Made made) = codes "made " ++ ended made_function_name newline made
source_text (source.Stub n) = codes "stub " ++ name newline n
source_text (source.Wrap n) = codes "wrap " ++ name newline n

-- what a global that the linker makes stands for
abbrev pub made_global_name : MadeGlobal → List ℕ
made_global_name MemoryBase = codes "memory_base"
made_global_name TableBase = codes "table_base"
made_global_name StackPointer = codes "stack_pointer"
made_global_name TlsBase = codes "tls_base"
made_global_name TlsSize = codes "tls_size"
made_global_name TlsAlign = codes "tls_align"
made_global_name Address = codes "address"
made_global_name GotMem = codes "got_mem"
made_global_name GotFunc = codes "got_func"
made_global_name Data = codes "data"

-- where a global is from: the object's number and the global's in it, or what the linker makes it
-- for
abbrev pub origin_text : GlobalOrigin → List ℕ
origin_text (origin.Object object unit) =
    codes "object " ++ number blank object ++ codes "unit " ++ number newline unit
origin_text (origin.Made made) = codes "made " ++ ended made_global_name newline made

-- where a segment goes: into the memory, put there when the module starts or copied by the first
-- thread; into the block of each thread; or nowhere by itself
abbrev pub state_text : SegmentState → List ℕ
state_text (state.Active address) = codes "active " ++ number blank address
state_text (state.Shared address) = codes "shared " ++ number blank address
state_text (state.Tls offset) = codes "tls " ++ number blank offset
state_text state.Passive = codes "passive - "

-- what the field of a relocation lies in
abbrev pub place_name : FixupPlace → List ℕ
place_name place.Code = codes "code"
place_name place.Segment = codes "segment"

-- what a field takes: a number, and what is still to be added to it; or an address that is known
-- later
abbrev pub to_text : FixupTo → List ℕ
to_text (Value value addend_left) = number blank value ++ signed newline addend_left
to_text (Deferred offset) = codes "deferred " ++ signed newline offset

-- what the line of an import begins with
abbrev pub import_word : OutputImportEntity → List ℕ
import_word (entity.Function type_index) = codes "import func "
import_word (entity.Global ty) = codes "import global "
import_word (entity.Memory m) = codes "import memory "

-- what is imported, up to the end of the line
abbrev pub entity_text : OutputImportEntity → List ℕ
entity_text (entity.Function type_index) = number newline type_index
entity_text (entity.Global ty) =
    ended value_type_name blank ty.content_type
    ++ flag (codes "const\n") (codes "var\n") ty.mutable
entity_text (entity.Memory m) = memory m

-- a relocation: where its field lies, its type, and what the field takes
abbrev pub fixup_text : Fixup → List ℕ
fixup_text f =
    number blank f.object ++ ended place_name blank f.place ++ number blank f.unit
    ++ number blank f.position ++ ended type_name blank f.ty ++ to_text f.to

-- ---- lines

-- the text of a line, up to its end
abbrev pub line_text : Line → List ℕ
line_text Version = codes "wildplan 1\n"
line_text (OutputType index ty) =
    codes "type " ++ number blank index ++ codes "(" ++ types ty.params ++ codes "->("
    ++ types ty.results ++ codes "\n"
line_text (Import origin n what) =
    import_word what ++ name blank origin ++ name blank n ++ entity_text what
line_text (Function index type_index from) =
    codes "func " ++ number blank index ++ codes "type " ++ number blank type_index
    ++ source_text from
line_text (Body index bytes) = codes "body " ++ number blank index ++ hex newline bytes
line_text (Global index ty init from) =
    codes "global " ++ number blank index ++ global_type ty ++ hex blank init ++ origin_text from
line_text (Memory m) = codes "memory " ++ memory m
line_text (Table minimum) = codes "table " ++ number newline minimum
line_text (Slot slot function) = codes "slot " ++ number blank slot ++ number newline function
line_text (Segment index object unit goes len) =
    codes "segment " ++ number blank index ++ codes "object " ++ number blank object
    ++ codes "unit " ++ number blank unit ++ state_text goes ++ number newline len
line_text (Export n kind index) =
    codes "export " ++ name blank n ++ ended kind_name blank kind ++ number newline index
line_text (Start function) = codes "start " ++ number newline function
line_text (Fix f) = codes "fix " ++ fixup_text f
line_text (Feature n) = codes "feature " ++ name newline n
line_text (Debug object n len) =
    codes "debug " ++ number blank object ++ name blank n ++ number newline len
line_text End = codes "end\n"
