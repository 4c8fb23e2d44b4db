use Rattle.std.proofs.Common.{◌∙◌, sym}
use Rattle.std.proofs.lemmas.Option.{slice_get-get_or}
use Rattle.wl_plan.proofs.PositionLaws.{has_first, object_within, head_in_code, none_moved}
use Rattle.wl_plan.proofs.BodyLaws.{one_more_rewritten}
use Rattle.wl_plan.proofs.positions.MovedFields.push_run.Goals as goal

pub returns-then-is_empty-clause-ok : goal.returns-then-is_empty-clause-ok
returns-then-is_empty-clause-ok c =
    none_moved c.args.renumbering.now.input.now c.args.renumbering.now.placing.now c.args.run.now
    c.args.self.now.positions.items (sym c.is_empty.ensures ∙ c.if-is_empty.true)

pub moved_code-requires-clause-at : goal.moved_code-requires-clause-at
moved_code-requires-clause-at c =
    slice_get-get_or c.args.run.now 0 _
    (has_first c.args.run.now (sym c.is_empty.ensures ∙ c.if-is_empty.false))

pub moved_code-requires-clause-place : goal.moved_code-requires-clause-place
moved_code-requires-clause-place c =
    head_in_code c.args.renumbering.now.input.now _ c.args.run.now
    (has_first c.args.run.now (sym c.is_empty.ensures ∙ c.if-is_empty.false)) c.requires.moving

pub moved_code-requires-clause-within : goal.moved_code-requires-clause-within
moved_code-requires-clause-within c =
    let some = has_first c.args.run.now (sym c.is_empty.ensures ∙ c.if-is_empty.false) in
    object_within c.whole_objects.ensures.fitting c.args.renumbering.now.input.now _ c.args.run.now
    c.requires.renumbering.sound c.requires.kept (slice_get-get_or c.args.run.now 0 _ some)
    (head_in_code c.args.renumbering.now.input.now _ c.args.run.now some c.requires.moving)

pub returns-clause-bodies : goal.returns-clause-bodies
returns-clause-bodies c =
    one_more_rewritten c.args.renumbering.now.input.now c.args.renumbering.now.placing.now
    c.args.self.now.bodies.items c.push.new.self.items _ c.requires.bodies
    c.in_ok-body.ensures.body c.in_ok-push.ensures.items
