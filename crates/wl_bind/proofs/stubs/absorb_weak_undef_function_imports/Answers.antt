use Rattle.wl_bind.proofs.StubLaws.{stubbed}
use Rattle.wl_bind.proofs.stubs.absorb_weak_undef_function_imports.Goals as goal

pub returns-clause-rows : goal.returns-clause-rows
returns-clause-rows c =
    stubbed c.args.input.now c.in_ok-slots.slots.resolutions.items c.args.rows.now c.set_functions.new.rows
    c.in_ok-slots.ensures.resolutions c.requires c.set_functions.ensures
