use Rattle.std.proofs.lemmas.Option.{slice_get_within}
use Rattle.wl_plan.proofs.PointerLaws.{in_segment}
use Rattle.wl_plan.proofs.fixups.FixupSources.template_start.Goals as goal

pub start-requires-clause-here : goal.start-requires-clause-here
start-requires-clause-here c =
    let s = c.args.self.now in
    let r = c.args.relocated.now in
    let w = in_segment c.whole_objects.ensures.fitting s.book.now.input.now r
    c.requires.sources.settled.whole c.requires.kept c.in-Segment.is in
    record { o = w.o; here = w.here; within = slice_get_within (w.o).segments r.site.unit w.segment w.there }
