use Rattle.wl_bind.specs.FunctionSpace.{init_memory_part}
use Rattle.wl_plan.specs.BodySteps.{AddsBodies}
use Rattle.wl_plan.specs.steps.Functions.{linker_functions}
use Rattle.wl_plan.proofs.FunctionLaws.{ok_then}
use Rattle.wl_plan.proofs.MadeBodyLaws.{adds_three}
use Rattle.wl_plan.proofs.bodies.push_linker_made.Goals as goal

pub returns-clause-ok : goal.returns-clause-ok
returns-clause-ok c =
    let s = c.args.sources.now in
    let input = s.book.now.input.now in
    let g = s.book.now.placing.now in
    let old = c.args.bodies.now.items in
    let one = c.push_call_ctors.new.bodies.items in
    let two = c.push_init_tls.new.bodies.items in
    let new = c.push_init_memory.new.bodies.items in
    ok_then c.push_init_memory.result (AddsBodies input g (init_memory_part input) two new)
    (AddsBodies input g (linker_functions input) old new)
    (λ last. adds_three input g old one two new (c.in_ok-push_call_ctors.ensures input g c.requires.sources.bindings) c.in_ok-push_init_tls.ensures.ok last)
    c.push_init_memory.ensures.ok
