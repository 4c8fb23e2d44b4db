use Rattle.std.proofs.Common.{◌≡◌, ◌++◌, drop}
use Rattle.wl_custom.specs.declared.symbols.WasmSymbolKind.TheVariants.{Func}
use Rattle.wl_bind.specs.FunctionSymbols.{kept_binding, function_bindings}
use Rattle.wl_bind.specs.Resolutions.{function_resolution}
use Rattle.wl_bind.specs.Shared.{function_imports, import_place, import_places}
use Rattle.wl_bind.specs.SlotRows.{slot_rows}
use Rattle.wl_bind.proofs.function_slots.bind_rows.Given as goal

abbrev pub invariant-loop-object : goal.invariant-loop-object
invariant-loop-object l = record {
  targets :
      l.targets ++ slot_rows (kept_binding l.input) Func l.object (drop l.object l.input.link.objects) ≡ function_bindings l.input;
  resolutions :
      l.rows.resolutions.items ++ slot_rows (function_resolution l.input) Func l.object (drop l.object l.input.link.objects)
      ≡ slot_rows (function_resolution l.input) Func 0 l.input.link.objects;
  places :
      l.rows.places ++ slot_rows (import_place l.input Func (function_imports l.input)) Func l.object (drop l.object l.input.link.objects)
      ≡ import_places l.input Func (function_imports l.input);
}
