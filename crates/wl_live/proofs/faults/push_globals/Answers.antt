use Rattle.std.proofs.Common.{◌≡◌, ◌<◌, ◌≤◌, ◌∙◌, ap, sym, length, get_or, Some}
use Rattle.std.proofs.lemmas.Option.{slice_get-get_or}
use Rattle.wl_module.specs.Globals.{DefinedGlobal}
use Rattle.wl_live.proofs.FaultLaws.{global-le, FaultsOfGlobals-more, AreFaults-from}
use Rattle.wl_live.proofs.faults.push_globals.Goals as goal

pub global_fault-requires : goal.global_fault-requires
global_fault-requires c =
    let o = c.args.file.now in
    let whole = c.stands_for_an_object.ensures.whole in
    let lt : c.loop-i.i < length o.globals = rw c.globals-globals.ensures at c.loop-i-test.true in
    let at : get_or o.globals c.loop-i.i c.index-globals-i.result ≡ c.index-globals-i.result = rw c.globals-globals.ensures at (sym c.index-globals-i.is) in
    global-le o c.loop-i.i c.index-globals-i.result whole (c.parts_of_objects_stand.ensures o.bytes o whole.object) lt at

pub loop-i-preserved : goal.loop-i-preserved
loop-i-preserved c =
    let o = c.args.file.now in
    let lt : c.loop-i.i < length o.globals = rw c.globals-globals.ensures at c.loop-i-test.true in
    let at : get_or o.globals c.loop-i.i c.index-globals-i.result ≡ c.index-globals-i.result = rw c.globals-globals.ensures at (sym c.index-globals-i.is) in
    FaultsOfGlobals-more o c.loop-i.i c.index-globals-i.result c.loop-i.faults.items c.push_fault.new.faults.items c.in_ok-fault.fault c.loop-i.invariant
    (slice_get-get_or o.globals c.loop-i.i c.index-globals-i.result lt ∙ ap (λ (x : DefinedGlobal). Some x) at) c.in_ok-fault.ensures c.in_ok-push_fault.ensures

pub returns : goal.returns
returns c =
    let o = c.args.file.now in
    let le : length o.globals ≤ c.loop-i.i = rw c.globals-globals.ensures at c.loop-i-test.false in
    AreFaults-from o c.loop-i.i c.loop-i.faults.items c.loop-i.invariant le
