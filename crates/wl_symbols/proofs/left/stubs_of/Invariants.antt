use Rattle.std.proofs.Common.{◌≡◌, [], drop, map}
use Rattle.indexmap.specs.IndexSet.{insert_all}
use Rattle.wl_symbols.specs.Left.{first_slot}
use Rattle.wl_symbols.specs.LeftSteps.{has_same_name, TellsNames}
use Rattle.wl_symbols.proofs.left.stubs_of.Given as goal

abbrev pub invariant-loop-slot : goal.invariant-loop-slot
invariant-loop-slot l = record {
  list : insert_all has_same_name l.list.items (map first_slot (drop l.slot-index l.slots))
      ≡ insert_all has_same_name [] (map first_slot l.slots);
  told : TellsNames l.list.items l.places;
}
