use Rattle.std.proofs.Common.{◌≡◌, ◌∙◌, ◌<◌, ◌≤◌, [], List, get_or, length, refl, rules, subst}
use Rattle.std.proofs.lemmas.Result.{err_from_is_err_and}
use Rattle.wl_bind.proofs.MergeLaws.{merging_object, merging_objects_full, merging_objects_done}
use Rattle.wl_bind.proofs.merging.merge_objects.Goals as goal
use Rattle.wl_linking.specs.Object.{Object}

pub returns-in_err-row-clause-err : goal.returns-in_err-row-clause-err
returns-in_err-row-clause-err c =
    let i = c.loop-object.object in
    let o = c.index-files-object.result in
    let files = c.as_slice-files.ensures.objects ∙ c.files.ensures.objects in
    let p = err_from_is_err_and c.from_residual.result c.from_residual.ensures.1 in
    rw (p.1, p.2) (merging_objects_full c.args.input.now [] i o
    (subst (λ (os : List Object). i < length os) files c.loop-object-test.true)
    (subst (λ (os : List Object). o ≡ get_or os i o) files c.index-files-object.is)
    c.loop-object.merged.types c.loop-object.merged.indices c.in_err-row.field-0.0 c.loop-object.invariant
    c.in_err-row.ensures.err)

pub loop-object-preserved : goal.loop-object-preserved
loop-object-preserved c =
    let i = c.loop-object.object in
    let o = c.index-files-object.result in
    let files = c.as_slice-files.ensures.objects ∙ c.files.ensures.objects in
    rw c.in_ok-push.ensures.ok (merging_object c.args.input.now [] i o
    (subst (λ (os : List Object). i < length os) files c.loop-object-test.true)
    (subst (λ (os : List Object). o ≡ get_or os i o) files c.index-files-object.is)
    c.loop-object.merged.types c.merge_object.new.merger c.loop-object.merged.indices c.in_ok-row.row
    c.in_ok-row.ensures.types c.in_ok-row.ensures.indices c.loop-object.invariant)

pub returns-clause-types : goal.returns-clause-types
returns-clause-types c =
    let le : length c.args.input.now.link.objects ≤ c.loop-object.object = search rules in
    (merging_objects_done c.args.input.now [] c.loop-object.object c.loop-object.merged.types
    c.loop-object.merged.indices le c.loop-object.invariant).0

pub returns-clause-indices : goal.returns-clause-indices
returns-clause-indices c =
    let le : length c.args.input.now.link.objects ≤ c.loop-object.object = search rules in
    (merging_objects_done c.args.input.now [] c.loop-object.object c.loop-object.merged.types
    c.loop-object.merged.indices le c.loop-object.invariant).1

pub loop-object-init : goal.loop-object-init
loop-object-init c = rw (c.new.ensures, c.empty.ensures) (record { types = refl; rows_are = λ after more g are. are })
