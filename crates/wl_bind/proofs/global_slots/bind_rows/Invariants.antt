use Rattle.std.proofs.Common.{◌≡◌, ◌++◌, drop}
use Rattle.wl_custom.specs.declared.symbols.WasmSymbolKind.TheVariants.{Global}
use Rattle.wl_bind.specs.Resolutions.{global_resolution}
use Rattle.wl_bind.specs.Shared.{import_place, import_places}
use Rattle.wl_bind.specs.SlotRows.{slot_rows}
use Rattle.wl_bind.proofs.global_slots.bind_rows.Given as goal

abbrev pub invariant-loop-object : goal.invariant-loop-object
invariant-loop-object l = record {
  resolutions :
      l.rows.resolutions.items ++ slot_rows (global_resolution l.input) Global l.object (drop l.object l.input.link.objects)
      ≡ slot_rows (global_resolution l.input) Global 0 l.input.link.objects;
  places :
      l.rows.places ++ slot_rows (import_place l.input Global l.hosts) Global l.object (drop l.object l.input.link.objects)
      ≡ import_places l.input Global l.hosts;
}
