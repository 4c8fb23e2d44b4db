use Rattle.wl_symbols.specs.ImportSlots.{slot_imports}
use Rattle.wl_symbols.proofs.PlacingLaws.{slots_taken}
use Rattle.wl_symbols.proofs.slots.fill_from.Goals as goal

pub loop-i-preserved : goal.loop-i-preserved
loop-i-preserved c =
    slots_taken c.args.object c.args.kind c.symbols-symbols.result.now c.loop-i.i c.index-symbols-i.result (slot_imports c.args.kind c.args.file.now.imports) c.loop-i.slots.items c.place_symbol.new.slots.items c.loop-i-test.true c.index-symbols-i.is c.loop-i.invariant c.in_ok-place_symbol.ensures
