-- Why a unit can't be kept.
use Rattle.std.specs.Prelude.{◌≡◌, ◌⊎◌, ℕ, ◌+◌, ◌<◌, ◌≤◌, List, length, Some, Contains, slice_get}
use Rattle.wl_module.specs.Bodies.{Body}
use Rattle.wl_module.specs.Globals.{DefinedGlobal as GlobalRecord}
use Rattle.wl_bytes.specs.Lists.{start}
use Rattle.wl_bytes.specs.declared.read_error.ReadError.{ReadError}
use Rattle.wl_bytes.specs.declared.read_error.ReadError.TheVariants as read
use Rattle.wl_bytes.specs.declared.read_error.Why.TheVariants.{BadIndex, Overlap}
use Rattle.wl_bytes.specs.declared.read_error.Form.TheVariants.{GlobalInit}
use Rattle.wl_linking.specs.Object.{Object}
use Rattle.wl_custom.specs.RelocationTypes.{field_form}
use Rattle.wl_linking.specs.Sites.{field_len}
use Rattle.wl_custom.specs.declared.relocations.WasmRelocation.{WasmRelocation}
use Rattle.wl_linking.specs.declared.error.LinkError.{LinkError}
use Rattle.wl_linking.specs.declared.error.LinkError.TheVariants.{OutOfMemory, Malformed, Unsupported}
use Rattle.wl_ops.specs.Expressions.{HasReference}
use Rattle.wl_ops.specs.Numbers.{HasNumbers, NumbersFault}
use Rattle.wl_ops.specs.declared.op.DataIndexImm.{DataIndexImm}
use Rattle.wl_symbols.specs.Link.{Link}
use Rattle.wl_symbols.specs.Kept.{IsKept}
use Rattle.wl_symbols.specs.declared.units.LinkUnit.{LinkUnit}
use Rattle.wl_symbols.specs.declared.units.WasmGcUnit.{WasmGcUnit}
use Rattle.wl_symbols.specs.declared.units.WasmGcUnit.TheVariants.{DefinedFunction, DefinedGlobal, DataSegment, FunctionImport, GlobalImport}

-- ---- bodies

-- a relocation's field has a byte between these places of the code section's payload
abbrev pub HasFieldIn : List WasmRelocation → ℕ → ℕ → Type 0
HasFieldIn relocations from to =
    (r : WasmRelocation) × Contains relocations r × (r.offset < to)
    × (from < r.offset + field_len (field_form r.ty))

-- a number in the body names no segment, or shares a byte with the field of a relocation
abbrev pub SegmentNumberFault : Object → Body → DataIndexImm → ReadError → Type 0
SegmentNumberFault o body n (read.Malformed BadIndex) = length o.segments ≤ n.index
SegmentNumberFault o body n (read.Malformed Overlap) =
    HasFieldIn o.code_relocations (body.code_offset + n.offset)
    (body.code_offset + n.offset + n.len)
SegmentNumberFault o body n _ = ⊥

-- one of these numbers is at fault
abbrev pub HasSegmentNumberFault : Object → Body → List DataIndexImm → ReadError → Type 0
HasSegmentNumberFault o body numbers e =
    (n : DataIndexImm) × Contains numbers n × SegmentNumberFault o body n e

-- a body with 0xfc isn't decoded, or one of its numbers of segments is at fault
abbrev pub HasBodyFault : Object → Body → ReadError → Type 0
HasBodyFault o body e =
    NumbersFault e body.bytes
    ⊎ ((numbers : List DataIndexImm) × HasNumbers numbers body.bytes
    × HasSegmentNumberFault o body numbers e)

-- ---- globals

-- its expression has `global.get` or `ref.func` (core specification, "Constant Expressions")
abbrev pub HasGlobalFault : GlobalRecord → ReadError → Type 0
HasGlobalFault global e = HasReference (start global.body) × (e ≡ read.Unsupported GlobalInit)

-- ---- units

-- why the unit of an object can't be kept
abbrev pub HasUnitFault : Object → WasmGcUnit → ReadError → Type 0
HasUnitFault o (DefinedFunction k) e =
    (body : Body) × (slice_get o.bodies k ≡ Some body) × HasBodyFault o body e
HasUnitFault o (DefinedGlobal k) e =
    (global : GlobalRecord) × (slice_get o.globals k ≡ Some global) × HasGlobalFault global e
HasUnitFault o (DataSegment k) e = ⊥
HasUnitFault o (FunctionImport k) e = ⊥
HasUnitFault o (GlobalImport k) e = ⊥

-- the refusal of the object of that number for this reason
abbrev pub object_refusal : ℕ → ReadError → LinkError
object_refusal object read.OutOfMemory = OutOfMemory
object_refusal object (read.Malformed why) = Malformed object why
object_refusal object (read.Unsupported form) = Unsupported object form

-- a unit is kept that can't be
pub record IsKeptFault (link : Link) (e : LinkError) : Type 0 where
  pub unit : LinkUnit
  pub kept : IsKept link unit
  pub object : Object
  pub here : slice_get link.objects unit.object ≡ Some object
  pub cause : ReadError
  pub fault : HasUnitFault object unit.unit cause
  pub told : e ≡ object_refusal unit.object cause
