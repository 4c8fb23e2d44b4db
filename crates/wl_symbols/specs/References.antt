-- Which units a unit refers to.
use Rattle.std.specs.Prelude.{◌≡◌, ◌⊎◌, ℕ, true, false, List, Some, Contains, slice_get}
use Rattle.wl_module.specs.Bodies.{Body}
use Rattle.wl_linking.specs.Object.{Object}
use Rattle.wl_custom.specs.Symbols.{Symbol, is_undefined}
use Rattle.wl_custom.specs.RelocationTypes.{names_a_type}
use Rattle.wl_custom.specs.declared.relocations.WasmRelocation.{WasmRelocation}
use Rattle.wl_linking.specs.declared.sites.Site.{Site}
use Rattle.wl_ops.specs.Numbers.{HasNumbers}
use Rattle.wl_ops.specs.declared.op.DataIndexImm.{DataIndexImm}
use Rattle.wl_symbols.specs.Link.{Link}
use Rattle.wl_symbols.specs.Units.{unit_of, units_of, exists}
use Rattle.wl_symbols.specs.DefinedUnits.{unit_at, replacing_unit, other_unit}
use Rattle.wl_symbols.specs.declared.units.LinkUnit.{LinkUnit}
use Rattle.wl_symbols.specs.declared.units.WasmGcUnit.{WasmGcUnit}
use Rattle.wl_symbols.specs.declared.units.WasmGcUnit.TheVariants.{DefinedFunction, DefinedGlobal, DataSegment, FunctionImport, GlobalImport}

-- the relocation is one of these, and its field lies in the body or segment of that number
abbrev pub IsSited : List WasmRelocation → List Site → ℕ → WasmRelocation → Type 0
IsSited relocations sites unit r =
    (k : ℕ) × (s : Site) × (slice_get relocations k ≡ Some r) × (slice_get sites k ≡ Some s)
    × (s.unit ≡ unit)

-- the field of the relocation lies in the unit's body or payload
abbrev pub HasRelocation : Object → WasmGcUnit → WasmRelocation → Type 0
HasRelocation o (DefinedFunction k) r = IsSited o.code_relocations o.code_sites k r
HasRelocation o (DefinedGlobal k) r = ⊥
HasRelocation o (DataSegment k) r = IsSited o.data_relocations o.data_sites k r
HasRelocation o (FunctionImport k) r = ⊥
HasRelocation o (GlobalImport k) r = ⊥

-- a relocation in u that isn't against a type names a symbol, and v is the symbol's unit, or the
-- unit of what an object defines in its place
pub record RefersBySymbol (link : Link) (u v : LinkUnit) : Type 0 where
  pub object : Object
  pub here : slice_get link.objects u.object ≡ Some object
  pub relocation : WasmRelocation
  pub holds : HasRelocation object u.unit relocation
  pub other : names_a_type relocation.ty ≡ false
  pub symbol : Symbol
  pub names : slice_get object.symbols relocation.index ≡ Some symbol
  pub leads : (unit_at (units_of link.objects) u.object symbol ≡ Some v)
      ⊎ (replacing_unit link (units_of link.objects) u.object relocation.index symbol ≡ Some v)

-- the number of the segment v stands in the body u
pub record RefersByNumber (link : Link) (u v : LinkUnit) : Type 0 where
  pub object : Object
  pub here : slice_get link.objects u.object ≡ Some object
  pub function : ℕ
  pub from : u.unit ≡ DefinedFunction function
  pub body : Body
  pub has : slice_get object.bodies function ≡ Some body
  pub numbers : List DataIndexImm
  pub are : HasNumbers numbers body.bytes
  pub number : DataIndexImm
  pub one : Contains numbers number
  pub to : v ≡ record { object = u.object; unit = DataSegment number.index }

-- the number of a segment stands in the body u
abbrev pub NumbersSegments : Link → LinkUnit → Type 0
NumbersSegments link u = (v : LinkUnit) × RefersByNumber link u v

-- u is an import slot with an undefined symbol, and v is the unit of what the symbol stands for and
-- an object defines
pub record RefersBySlot (link : Link) (u v : LinkUnit) : Type 0 where
  pub object : Object
  pub here : slice_get link.objects u.object ≡ Some object
  pub number : ℕ
  pub symbol : Symbol
  pub at : slice_get object.symbols number ≡ Some symbol
  pub undefined : is_undefined symbol ≡ true
  pub slot : unit_of object symbol ≡ Some u.unit
  pub leads : other_unit link (units_of link.objects) u.object number ≡ Some v

-- one unit refers to another: both exist, and one of the three is the case
pub record Refers (link : Link) (u v : LinkUnit) : Type 0 where
  pub from : exists (units_of link.objects) u ≡ true
  pub to : exists (units_of link.objects) v ≡ true
  pub how : RefersBySymbol link u v ⊎ (RefersByNumber link u v ⊎ RefersBySlot link u v)
