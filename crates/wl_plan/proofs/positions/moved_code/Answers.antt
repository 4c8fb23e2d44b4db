use Rattle.std.proofs.Common.{◌∙◌, ◌<◌, List, length, sym, subst}
use Rattle.wl_linking.specs.Object.{Object}
use Rattle.wl_lists.proofs.Rows.{object_here}
use Rattle.wl_plan.proofs.PositionLaws.{unit_within}
use Rattle.wl_plan.proofs.positions.moved_code.Goals as goal

pub moved_file-requires-clause-here : goal.moved_file-requires-clause-here
moved_file-requires-clause-here c =
    let files = c.as_slice-files.ensures.objects ∙ c.files.ensures.objects in
    let lt : c.args.first.object < length c.as_slice-files.result.now =
    subst (λ (os : List Object). c.args.first.object < length os) (sym files) c.requires.within in
    object_here c.args.renumbering.now.input.now.link.objects c.as_slice-files.result.now c.args.first.object
    c.index-files-first.result files lt c.index-files-first.is

pub moved_file-requires-clause-unit : goal.moved_file-requires-clause-unit
moved_file-requires-clause-unit c =
    let files = c.as_slice-files.ensures.objects ∙ c.files.ensures.objects in
    let lt : c.args.first.object < length c.as_slice-files.result.now =
    subst (λ (os : List Object). c.args.first.object < length os) (sym files) c.requires.within in
    unit_within c.whole_objects.ensures.fitting c.args.renumbering.now.input.now c.args.first c.args.run.now
    c.index-files-first.result c.requires.renumbering.sound c.requires.kept c.requires.at c.requires.place
    (object_here c.args.renumbering.now.input.now.link.objects c.as_slice-files.result.now c.args.first.object
    c.index-files-first.result files lt c.index-files-first.is)
