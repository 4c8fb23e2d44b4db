use Rattle.std.proofs.Common.{◌∙◌, ◌++◌}
use Rattle.wl_bind.specs.FunctionSpace.{object_functions, stub_part}
use Rattle.wl_plan.specs.steps.Functions.{linker_functions}
use Rattle.wl_plan.proofs.FunctionLaws.{adds_more, all_are}
use Rattle.wl_plan.proofs.functions.own_functions.Goals as goal

pub push_objects-requires-clause-files : goal.push_objects-requires-clause-files
push_objects-requires-clause-files c = c.as_slice-2.ensures.objects ∙ c.files.ensures.objects

pub returns : goal.returns
returns c =
    let input = c.args.input.now in
    let made = linker_functions input in
    let stubs = stub_part input in
    let start = c.in_ok-functions.functions.items in
    let one = c.push_linker_made.new.functions.items in
    let two = c.push_stubs.new.functions.items in
    let new = c.push_objects.new.functions.items in
    all_are input start new c.in_ok-functions.ensures.items
    (adds_more input (made ++ stubs) (object_functions input) start two new
    (adds_more input made stubs start one two (c.in_ok-push_linker_made.ensures input c.requires.bindings)
    c.in_ok-push_stubs.ensures)
    c.in_ok-push_objects.ensures)
