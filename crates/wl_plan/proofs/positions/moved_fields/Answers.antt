use Rattle.std.proofs.lemmas.Result.{IfOk-weaker}
use Rattle.wl_symbols.specs.Relocations.{relocations}
use Rattle.wl_plan.proofs.PositionLaws.{none_moving, others_stand}
use Rattle.wl_plan.proofs.positions.moved_fields.Goals as goal

pub returns-then-all_stay-clause-positions : goal.returns-then-all_stay-clause-positions
returns-then-all_stay-clause-positions c =
    let r = c.args.renumbering.now in
    let input = r.input.now in
    let stay = c.all_stay.ensures c.if-all_stay.true in
    record {
      moved = rw (c.new.ensures.items, none_moving input (relocations input) stay) tt;
      others = others_stand c.whole_objects.ensures.fitting c.unmarked_bodies_number_none.ensures input
          r.placing.now r.rows.now c.requires.renumbering.sound c.requires.renumbering.numbers;
    }

pub returns-clause-positions : goal.returns-clause-positions
returns-clause-positions c =
    let r = c.args.renumbering.now in
    let input = r.input.now in
    IfOk-weaker c.walk_fields.result _ _
    (λ m are. record {
      moved = are;
      others = others_stand c.whole_objects.ensures.fitting c.unmarked_bodies_number_none.ensures input
          r.placing.now r.rows.now c.requires.renumbering.sound c.requires.renumbering.numbers;
    })
    c.walk_fields.ensures.positions
