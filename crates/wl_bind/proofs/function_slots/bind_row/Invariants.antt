use Rattle.std.proofs.Common.{◌≡◌, map, take}
use Rattle.wl_custom.specs.declared.symbols.WasmSymbolKind.TheVariants.{Func}
use Rattle.wl_bind.specs.FunctionSymbols.{kept_binding}
use Rattle.wl_bind.specs.Resolutions.{function_resolution}
use Rattle.wl_bind.specs.Shared.{function_imports, import_place}
use Rattle.wl_bind.proofs.function_slots.bind_row.Given as goal

abbrev pub invariant-loop-slot : goal.invariant-loop-slot
invariant-loop-slot l = record {
  targets : l.row.targets.items ≡ map (kept_binding l.input) (take l.slot-index l.slot-items);
  resolutions : l.row.slots.resolutions.items ≡ map (function_resolution l.input) (take l.slot-index l.slot-items);
  places : l.row.slots.places.items ≡ map (import_place l.input Func (function_imports l.input)) (take l.slot-index l.slot-items);
}
