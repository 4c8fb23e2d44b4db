-- The rules of binding by cases.
use Rattle.std.specs.Prelude.{◌≡◌, ◌⊎◌, ℕ, true, Contains, Some, slice_get}
use Rattle.wl_linking.specs.Object.{Object}
use Rattle.wl_linking.specs.Fitting.{IsWhole}
use Rattle.wl_custom.specs.declared.symbols.WasmSymbolKind.{WasmSymbolKind}
use Rattle.wl_custom.specs.Symbols.{Symbol as LinkedSymbol}
use Rattle.wl_symbols.specs.Link.{Link}
use Rattle.wl_symbols.specs.LinkerNames.{matches_kind}
use Rattle.wl_symbols.specs.Names.{named, def}
use Rattle.wl_symbols.specs.declared.entry.Definition.TheVariants.{Symbol, Made as MadeName}
use Rattle.wl_symbols.specs.declared.linker_symbol.WasmLinkerSymbol.{WasmLinkerSymbol}
use Rattle.wl_symbols.specs.ImportSlots.{ImportSlot, object_slots}
use Rattle.wl_symbols.specs.SlotTargets.{own_number, is_definition_of}
use Rattle.wl_symbols.specs.declared.targets.SlotTarget.{SlotTarget}
use Rattle.wl_symbols.specs.declared.targets.SlotTarget.TheVariants.{Defined, Made}

-- a slot of that kind of a whole object of the link, which has that number
pub record IsObjectSlot (link : Link) (object : ℕ) (kind : WasmSymbolKind) (o : Object)
    (t : ImportSlot) : Type 0 where
  pub here : slice_get link.objects object ≡ Some o
  pub whole : IsWhole o
  pub slot : Contains (object_slots object kind o) t

-- an undefined symbol on the slot stands for a symbol of an object that defines the function or
-- global of that number, of the slot's kind
pub record HasDefinition (link : Link) (t : ImportSlot) (object number : ℕ) : Type 0 where
  pub undefined : ℕ
  pub on_slot : Contains t.symbols undefined
  pub symbol : ℕ
  pub stands : def link t.object undefined ≡ Symbol object symbol
  pub o : Object
  pub object_is : slice_get link.objects object ≡ Some o
  pub s : LinkedSymbol
  pub symbol_is : slice_get o.symbols symbol ≡ Some s
  pub defines : is_definition_of t.kind s ≡ true
  pub number_is : own_number t.kind o s.index ≡ Some number

-- an undefined symbol on the slot stands for what the linker makes, of the slot's kind
pub record HasMadeSymbol (link : Link) (t : ImportSlot) (made : WasmLinkerSymbol) : Type 0 where
  pub undefined : ℕ
  pub on_slot : Contains t.symbols undefined
  pub stands : def link t.object undefined ≡ MadeName made
  pub of_kind : matches_kind t.kind made ≡ true

-- the field name stands for what the linker makes, of the slot's kind
pub record HasMadeField (link : Link) (t : ImportSlot) (made : WasmLinkerSymbol) : Type 0 where
  pub stands : named link t.item.name ≡ Some (MadeName made)
  pub of_kind : matches_kind t.kind made ≡ true

-- no object defines it by an undefined symbol on it
abbrev pub HasNoDefinition : Link → ImportSlot → Type 0
HasNoDefinition link t = (object number : ℕ) → HasDefinition link t object number → ⊥

-- no undefined symbol on it stands for what the linker makes of its kind
abbrev pub HasNoMadeSymbol : Link → ImportSlot → Type 0
HasNoMadeSymbol link t = (m : WasmLinkerSymbol) → HasMadeSymbol link t m → ⊥

-- the rules bind the slot to that: an object's definition by a symbol; without one what the linker
-- makes by a symbol; without either what it makes by the field name
abbrev pub IsBoundTo : Link → ImportSlot → SlotTarget → Type 0
IsBoundTo link t (Defined object number) = HasDefinition link t object number
IsBoundTo link t (Made m) =
    HasNoDefinition link t
    × (HasMadeSymbol link t m ⊎ (HasNoMadeSymbol link t × HasMadeField link t m))

-- they leave the slot
pub record IsLeft (link : Link) (t : ImportSlot) : Type 0 where
  pub not_defined : HasNoDefinition link t
  pub not_made : HasNoMadeSymbol link t
  pub not_by_field : (m : WasmLinkerSymbol) → HasMadeField link t m → ⊥
