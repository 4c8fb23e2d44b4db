use Rattle.std.proofs.Common.{get_or, refl}
use Rattle.wl_bind.specs.Later.{with_functions}
use Rattle.wl_bind.proofs.SteppedLaws.{place_steps, behind_last}
use Rattle.wl_bind.proofs.stubs.set_functions_at.Goals as goal

pub returns-then-object-rows : goal.returns-then-object-rows
returns-then-object-rows c =
    let row = get_or c.args.rows.now c.args.object c.index-rows-object.result in
    place_steps with_functions c.args.rows.now c.args.object c.args.object c.args.functions c.index-rows-object.result
    (record row { function_resolutions = c.args.functions }) c.if-object-rows.true refl

pub returns-else-object-rows : goal.returns-else-object-rows
returns-else-object-rows c =
    behind_last with_functions c.args.rows.now c.args.object c.args.object c.args.functions c.if-object-rows.false
