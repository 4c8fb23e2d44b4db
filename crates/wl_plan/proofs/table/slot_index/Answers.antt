use Rattle.wl_plan.proofs.TableLaws.{bound_found}
use Rattle.wl_plan.proofs.table.slot_index.Goals as goal

pub returns : goal.returns
returns c =
    λ target is. bound_found c.args.input.now c.args.placing.now c.args.maps.now c.args.object c.args.slot target
    c.mapped_index.result c.requires.maps is c.mapped_index.ensures
