use Rattle.wl_plan.proofs.TableLaws.{host_here, made_found, made_here, place_as, stub_here}
use Rattle.wl_plan.proofs.table.found_index.Goals as goal

pub returns-in-Defined : goal.returns-in-Defined
returns-in-Defined c = place_as c.args.input.now _ c.args.target c.defined_index.result c.in-Defined.is c.defined_index.ensures

pub returns-in-Host : goal.returns-in-Host
returns-in-Host c =
    c.slot_index.ensures c.args.target
    (host_here c.args.input.now c.args.target c.in-Host.object c.in-Host.slot c.in-Host.is c.requires.here)

pub returns-in-Stub : goal.returns-in-Stub
returns-in-Stub c =
    c.slot_index-in-Stub.ensures c.args.target
    (stub_here c.args.input.now c.args.target c.in-Stub.object c.in-Stub.slot c.in-Stub.is c.requires.here)

pub returns-in-Made : goal.returns-in-Made
returns-in-Made c =
    let input = c.args.input.now in
    place_as input _ c.args.target c.index.result c.in-Made.is
    (made_found input c.in-Made.made c.index.result
    (made_here input c.args.target c.in-Made.made c.in-Made.is c.requires.here)
    (c.index.ensures input c.requires.bindings.indices))
