use Rattle.std.proofs.Common.{◌∙◌}
use Rattle.wl_bind.specs.OutputTypes.{output_types}
use Rattle.wl_plan.proofs.ImportLaws.{are_imports, whole_types}
use Rattle.wl_plan.proofs.imports.output_imports.Goals as goal

pub returns : goal.returns
returns c =
    let input = c.args.input.now in
    are_imports input (output_types input) c.args.placing.now c.new-imports.result.items
    c.push_functions.new.imports.items c.push_globals.new.imports.items c.new.result c.new-imports.ensures.items
    c.in_ok-push_functions.ensures c.in_ok-push_globals.ensures (c.new.ensures ∙ c.in_ok-push_memory.ensures)

pub push_functions-requires-clause-maps : goal.push_functions-requires-clause-maps
push_functions-requires-clause-maps c =
    whole_types c.args.input.now c.args.placing.now 0 c.args.input.now.link.objects c.args.maps.now c.requires.maps
