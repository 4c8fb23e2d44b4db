use Rattle.std.proofs.Common.{◌≡◌, [], drop, map}
use Rattle.indexmap.specs.IndexSet.{insert_all}
use Rattle.wl_symbols.specs.Left.{first_slot}
use Rattle.wl_symbols.specs.LeftSteps.{has_same_names, TellsImports}
use Rattle.wl_symbols.proofs.left.host_imports.Given as goal

abbrev pub invariant-loop-slot : goal.invariant-loop-slot
invariant-loop-slot l = record {
  list : insert_all has_same_names l.list.items (map first_slot (drop l.slot-index l.slots))
      ≡ insert_all has_same_names [] (map first_slot l.slots);
  told : TellsImports l.list.items l.places;
}
