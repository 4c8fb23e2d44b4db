use Rattle.std.proofs.Common.{◌≡◌, ◌≤◌, drop}
use Rattle.wl_custom.specs.declared.symbols.WasmSymbolKind.TheVariants.{Global as GlobalKind}
use Rattle.wl_symbols.specs.ImportSlots.{slot_imports}
use Rattle.wl_bind.specs.Stepped.{stepped_behind}
use Rattle.wl_bind.specs.Later.{walk_of, walked_at, walked}
use Rattle.wl_bind.proofs.later.Walk.resolve_all.Given as goal

abbrev pub invariant-loop-import : goal.invariant-loop-import
invariant-loop-import l = record {
  few : l.number ≤ l.import-index;
  rest :
      stepped_behind
      (walked_at (walk_of l.self.input.now l.self.scan.now l.self.object))
      l.number l.number (slot_imports GlobalKind (drop l.import-index l.import-items)) l.resolutions
      ≡ walked (walk_of l.self.input.now l.self.scan.now l.self.object) l.file l.fn.resolutions;
}
