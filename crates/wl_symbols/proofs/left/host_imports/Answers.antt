use Rattle.std.proofs.Common.{◌≡◌, ◌∙◌, [], map, arith}
use Rattle.std.proofs.lemmas.Grind.{common_steps}
use Rattle.indexmap.specs.IndexSet.{insert_all}
use Rattle.wl_symbols.specs.Left.{first_slot}
use Rattle.wl_symbols.specs.LeftSteps.{has_same_names}
use Rattle.wl_symbols.proofs.TellingLaws.{map_all}
use Rattle.wl_symbols.proofs.left.host_imports.Goals as goal

pub returns : goal.returns
returns c =
    let told : c.loop-slot.list.items ≡ insert_all has_same_names [] (map first_slot c.args.slots.now) = grind (arith, common_steps) in
    told ∙ map_all first_slot has_same_names [] c.args.slots.now
