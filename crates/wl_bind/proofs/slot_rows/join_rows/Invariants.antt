use Rattle.std.proofs.Common.{◌≡◌, ◌++◌}
use Rattle.wl_bind.specs.steps.SlotRows.{joined_rows}
use Rattle.wl_bind.proofs.slot_rows.join_rows.Given as goal

abbrev pub invariant-loop-function_resolutions : goal.invariant-loop-function_resolutions
invariant-loop-function_resolutions l =
    let left = l.function_resolutions-iterator in
    l.rows.items ++ joined_rows left.a.rest.items left.b.rest.items ≡ joined_rows l.fn.functions.items l.fn.globals.items
