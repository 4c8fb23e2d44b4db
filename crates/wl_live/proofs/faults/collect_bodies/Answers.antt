use Rattle.std.proofs.Common.{◌≡◌, ◌<◌, ◌∙◌, ap, sym, subst, length, get_or, Some, List}
use Rattle.std.proofs.lemmas.List.{drop_all}
use Rattle.std.proofs.lemmas.Option.{slice_get-get_or}
use Rattle.wl_module.specs.Bodies.{Body}
use Rattle.wl_live.specs.Facts.{AreSegmentUses}
use Rattle.wl_live.proofs.FactLaws.{Numbered-more, Numbered-all}
use Rattle.wl_live.proofs.FaultLaws.{body-le, FaultsOfBodies-more}
use Rattle.wl_live.proofs.faults.collect_bodies.Goals as goal

pub take_body-requires : goal.take_body-requires
take_body-requires c =
    let o = c.args.file.now in
    let whole = c.stands_for_an_object.ensures.whole in
    let lt : c.loop-i.i < length o.bodies = rw c.bodies-bodies.ensures at c.loop-i-test.true in
    let at : get_or o.bodies c.loop-i.i c.index-bodies-i.result ≡ c.index-bodies-i.result = rw c.bodies-bodies.ensures at (sym c.index-bodies-i.is) in
    body-le o c.loop-i.i c.index-bodies-i.result whole (c.parts_of_objects_stand.ensures o.bytes o whole.object) lt at

pub loop-i-preserved : goal.loop-i-preserved
loop-i-preserved c =
    let o = c.args.file.now in
    let lt : c.loop-i.i < length o.bodies = rw c.bodies-bodies.ensures at c.loop-i-test.true in
    let at : get_or o.bodies c.loop-i.i c.index-bodies-i.result ≡ c.index-bodies-i.result = rw c.bodies-bodies.ensures at (sym c.index-bodies-i.is) in
    record {
      segments = Numbered-more c.bodies-bodies.result.now c.loop-i.i c.index-bodies-i.result c.loop-i.segments.items c.take_body.new.segments.items c.loop-i.invariant.segments c.loop-i-test.true (sym c.index-bodies-i.is) c.in_ok-fault.ensures.segments;
      faults = FaultsOfBodies-more o c.loop-i.i c.index-bodies-i.result c.loop-i.faults.items c.push_fault.new.faults.items c.in_ok-fault.fault c.loop-i.invariant.faults
          (slice_get-get_or o.bodies c.loop-i.i c.index-bodies-i.result lt ∙ ap (λ (x : Body). Some x) at) c.in_ok-fault.ensures.fault c.in_ok-push_fault.ensures;
    }

pub returns-clause-segments : goal.returns-clause-segments
returns-clause-segments c =
    subst (λ (l : List Body). AreSegmentUses 0 l c.loop-i.segments.items) c.bodies-bodies.ensures
    (Numbered-all c.bodies-bodies.result.now c.loop-i.i c.loop-i.segments.items c.loop-i.invariant.segments (drop_all c.loop-i.i c.bodies-bodies.result.now c.loop-i-test.false))
