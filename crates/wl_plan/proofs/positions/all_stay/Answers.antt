use Rattle.std.proofs.Common.{◌∙◌, ◌≤◌, length, subst, arith, rules}
use Rattle.std.proofs.lemmas.Option.{slice_get_within}
use Rattle.wl_symbols.specs.Live.{Live}
use Rattle.wl_lists.proofs.Rows.{object_here}
use Rattle.wl_plan.specs.steps.Positions.{NoneIsMarked}
use Rattle.wl_plan.proofs.PositionLaws.{none_more, unmarked_stays}
use Rattle.wl_plan.proofs.positions.all_stay.Goals as goal

pub loop-object-preserved : goal.loop-object-preserved
loop-object-preserved c =
    let input = c.args.input.now in
    let object = c.loop-object.object in
    let file = c.file-item.result in
    let files = c.as_slice-file-items.ensures.objects ∙ c.files.ensures.objects in
    let none = c.any_in_object.ensures c.if-any_in_object.false in
    none_more input object file
    (object_here input.link.objects c.as_slice-file-items.result.now object file files
    c.loop-object-test.true c.file-item.is)
    (subst (λ (live : Live). NoneIsMarked live object (length file.bodies)) c.live-live.ensures.live none)
    c.loop-object.invariant

pub returns : goal.returns
returns c = λ is r kept.
    let input = c.args.input.now in
    let all : length input.link.objects ≤ c.loop-object.object = search rules in
    unmarked_stays c.whole_objects.ensures.fitting input r c.requires
    (λ object o there.
    let lt = slice_get_within input.link.objects object o there in
    c.loop-object.invariant object o (omega (arith, all, lt)) there)
    kept
