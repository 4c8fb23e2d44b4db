-- The slots of a kind that are left to the host, as they are handed on.
use Rattle.std.specs.Prelude.{◌≡◌, List, map}
use Rattle.wl_custom.specs.declared.symbols.WasmSymbolKind.{WasmSymbolKind}
use Rattle.wl_custom.specs.declared.symbols.WasmSymbolKind.TheVariants.{Func, Global}
use Rattle.wl_symbols.specs.ImportSlots.{ImportSlot}
use Rattle.wl_symbols.specs.Left.{first_imports, first_slot}
use Rattle.wl_symbols.specs.Input.{Input}
use Rattle.wl_bind.specs.FunctionBinding.{host_functions}
use Rattle.wl_bind.specs.GlobalBinding.{host_globals}
use Rattle.wl_bind.specs.Shared.{import_places}
use Rattle.wl_bind.specs.declared.shared.HostSlots.{HostSlots}

-- these slots, the imports that they are, and which of them each slot of the kind is
pub record AreHostSlots (input : Input) (kind : WasmSymbolKind) (left : List ImportSlot)
    (s : HostSlots) : Type 0 where
  pub slots : s.slots.items ≡ left
  pub imports : s.shared.imports ≡ map first_slot (first_imports left)
  pub places : s.shared.places
      ≡ import_places input kind (map first_slot (first_imports left))

-- the function slots of a link that are left to the host
abbrev pub AreHostFunctions : Input → HostSlots → Type 0
AreHostFunctions input s = AreHostSlots input Func (host_functions input) s

-- the global slots, likewise
abbrev pub AreHostGlobals : Input → HostSlots → Type 0
AreHostGlobals input s = AreHostSlots input Global (host_globals input) s
