use Rattle.std.proofs.Common.{◌≡◌, ◌∙◌, Some, slice_get}
use Rattle.wildplan.proofs.Gathering.{name_here, gathers_more, stops_among}
use Rattle.wildplan.proofs.inputs.gather.Goals as goal

pub returns-in-Err-clause-err : goal.returns-in-Err-clause-err
returns-in-Err-clause-err g c =
    let named : slice_get c.args.names.now c.loop-place.place ≡ Some c.file.inside.name.now = rw c.file.view_is (name_here c.args.names.now c.loop-place.place c.index-names-place.result c.loop-place-test.true c.index-names-place.is) in
    rw c.stop_for.ensures
    (stops_among c.args.names.now c.args.first (g.F.Files.state c.args.files.now) (g.F.Files.state c.loop-place.files) (g.F.Files.state c.read_with.new.files) c.loop-place.place c.loop-place.objects c.file.inside.name.now c.in-Err.error c.loop-place.invariant.on named
    c.in-Err.ensures.begun c.in-Err.ensures.err)

pub loop-place-preserved : goal.loop-place-preserved
loop-place-preserved g c =
    let named : slice_get c.args.names.now c.loop-place.place ≡ Some c.file.inside.name.now = rw c.file.view_is (name_here c.args.names.now c.loop-place.place c.index-names-place.result c.loop-place-test.true c.index-names-place.is) in
    record {
      on = rw c.in_ok-take_in-in-Ok.ensures.ok
          (gathers_more c.args.names.now (g.F.Files.state c.args.files.now) (g.F.Files.state c.loop-place.files) (g.F.Files.state c.read_with.new.files) c.loop-place.place c.loop-place.objects c.file.inside.name.now c.in-Ok.bytes.items c.loop-place.invariant.on named
          c.in-Ok.ensures.begun c.in-Ok.ensures.clean c.in-Ok.ensures.unfailed c.in-Ok.ensures.all c.in-Ok.ensures.names c.in-Ok.ensures.ok c.in-Ok.ensures.within);
      room = c.in-Ok.ensures.piece ∙ c.loop-place.invariant.room;
    }
