use Rattle.std.proofs.Common.{◌≡◌, map, take}
use Rattle.wl_custom.specs.declared.symbols.WasmSymbolKind.TheVariants.{Global}
use Rattle.wl_bind.specs.Resolutions.{global_resolution}
use Rattle.wl_bind.specs.Shared.{import_place}
use Rattle.wl_bind.proofs.global_slots.bind_row.Given as goal

abbrev pub invariant-loop-slot : goal.invariant-loop-slot
invariant-loop-slot l = record {
  resolutions : l.row.resolutions.items ≡ map (global_resolution l.input) (take l.slot-index l.slot-items);
  places : l.row.places.items ≡ map (import_place l.input Global l.hosts) (take l.slot-index l.slot-items);
}
