-- The global slots of a link, as they are found.
use Rattle.std.specs.Prelude.{◌≡◌, ℕ, Bool, List, Option, None, if◌then◌else◌}
use Rattle.wl_custom.specs.declared.symbols.WasmSymbolKind.TheVariants.{Global}
use Rattle.wl_symbols.specs.ImportSlots.{ImportSlot}
use Rattle.wl_symbols.specs.Left.{HostImport, place_of_import}
use Rattle.wl_symbols.specs.Input.{Input}
use Rattle.wl_bind.specs.Later.{later_by_got, is_unresolved}
use Rattle.wl_bind.specs.Resolutions.{global_resolution}
use Rattle.wl_bind.specs.Scan.{Scanned}
use Rattle.wl_bind.specs.SlotRows.{slot_rows}
use Rattle.wl_bind.specs.steps.HostSlots.{AreHostGlobals}
use Rattle.wl_bind.specs.declared.global_slots.GlobalSlots.{GlobalSlots}

-- the lists leave the slot, to which names bind nothing, to the host
abbrev pub is_host_by_lists : Scanned → ImportSlot → Bool
is_host_by_lists scan t = is_unresolved (later_by_got scan t.item.origin t.item.name)

-- the place of the host import that such a slot is, unless it is an entry of a list
abbrev pub left_global_place : Scanned → List HostImport → ImportSlot → Option ℕ
left_global_place scan hosts t =
    if is_host_by_lists scan t then place_of_import t.item.origin t.item.name hosts else None

-- what each is resolved to, and those that are the host's
pub record AreGlobalSlots (input : Input) (s : GlobalSlots) : Type 0 where
  pub resolutions : s.resolutions.items
      ≡ slot_rows (global_resolution input) Global 0 input.link.objects
  pub hosts : AreHostGlobals input s.hosts
