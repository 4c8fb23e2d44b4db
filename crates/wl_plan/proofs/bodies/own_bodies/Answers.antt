use Rattle.std.proofs.Common.{◌∙◌, ap, sym}
use Rattle.wl_bind.specs.FunctionSpace.{object_functions, stub_part}
use Rattle.wl_symbols.specs.Input.{Input}
use Rattle.wl_plan.specs.BodySteps.{AddsBodies}
use Rattle.wl_plan.specs.steps.Functions.{linker_functions}
use Rattle.wl_plan.proofs.GrowLaws.{adds_more, all_are, linker_part}
use Rattle.wl_plan.proofs.bodies.own_bodies.Goals as goal

pub push_objects-requires-clause-files : goal.push_objects-requires-clause-files
push_objects-requires-clause-files c =
    c.as_slice-files.ensures.objects ∙ c.files.ensures.objects
    ∙ ap (λ (i : Input). i.link.objects) (sym c.requires.input)

pub returns-clause-ok : goal.returns-clause-ok
returns-clause-ok c =
    let input = c.args.sources.now.book.now.input.now in
    let g = c.args.sources.now.book.now.placing.now in
    let start = c.in_ok-bodies.bodies.items in
    let middle = c.push_stubs.new.bodies.items in
    let new = c.push_objects.new.bodies.items in
    let both : AddsBodies input g (linker_part input) start middle =
    adds_more input g (linker_functions input) (stub_part input) start
    c.push_linker_made.new.bodies.items middle c.in_ok-push_linker_made.ensures.ok
    (c.in_ok-push_stubs.ensures input g c.requires.sources.bindings) in
    let own : AddsBodies input g (object_functions input) middle new =
    rw (c.requires.input, c.requires.placing) at c.in_ok-push_objects.ensures.ok in
    all_are input g start new c.in_ok-bodies.ensures.items
    (adds_more input g (linker_part input) (object_functions input) start middle new both own)
