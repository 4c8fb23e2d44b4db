use Rattle.std.proofs.Common.{◌∙◌}
use Rattle.wl_plan.proofs.TableLaws.{defined_found, same_object}
use Rattle.wl_plan.proofs.table.defined_index.Goals as goal

pub returns : goal.returns
returns c =
    let input = c.args.input.now in
    let files = c.as_slice.ensures.objects ∙ c.files.ensures.objects in
    let here = c.requires.here in
    defined_found input c.args.placing.now c.args.maps.now c.args.object c.args.function
    c.num_function_imports.result c.index-as_slice-object.result c.mapped_index.result
    c.slots_are_numbered.ensures.functions c.requires.maps here
    (same_object input c.args.object c.args.function here c.index-as_slice-object.result c.as_slice.result.now
    files c.index-as_slice-object.is) c.num_function_imports.ensures c.mapped_index.ensures
