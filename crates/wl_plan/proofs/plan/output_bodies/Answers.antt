use Rattle.std.proofs.Common.{List, subst, sym}
use Rattle.wl_module.specs.Bodies.{Body}
use Rattle.wl_plan.specs.Bodies.{AreBodies, AreOwnBodies}
use Rattle.wl_plan.proofs.plan.output_bodies.Goals as goal

pub returns-clause-ok : goal.returns-clause-ok
returns-clause-ok c =
    let input = c.args.things.now.input.now in
    let g = c.args.things.now.placing.now in
    let own : AreOwnBodies input g c.in_ok-bodies.bodies.items =
    rw (c.requires.book.input, c.requires.book.placing) at c.in_ok-bodies.ensures.ok in
    subst (λ (bodies : List Body). AreBodies input g bodies) (sym c.new.ensures)
    (c.in_ok-push_wrapper_bodies.ensures g own)
