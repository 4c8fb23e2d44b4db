use Rattle.std.proofs.Common.{◌≤◌, ◌∙◌, length, sym, refl, subst}
use Rattle.std.proofs.lemmas.List.{take_all}
use Rattle.std.proofs.lemmas.Option.{slice_get_read}
use Rattle.wl_features.proofs.PrefixLaws.{AreKnown, known_next, known_more, known_clear}
use Rattle.wl_features.proofs.checking.check_prefixes.Goals as goal

pub loop-feature-preserved : goal.loop-feature-preserved
loop-feature-preserved c =
    known_next c.target_features-feature-items.result.now c.loop-feature.feature-index
    c.feature-item.result c.loop-feature-test.true c.feature-item.is
    (sym c.is_known.ensures ∙ c.if-not-is_known.false) c.loop-feature.invariant

pub loop-object-preserved : goal.loop-object-preserved
loop-object-preserved c =
    let files = c.as_slice-file-items.result.now in
    let features = c.target_features-feature-items.result.now in
    let k = c.loop-object.object in
    let at = slice_get_read files (length files) k c.file-item.result refl c.loop-object-test.true
    c.file-item.is in
    let own : AreKnown features = subst AreKnown
    (take_all c.loop-feature.feature-index features c.loop-feature-test.false)
    c.loop-feature.invariant in
    known_more c.args.files.now k c.file-item.result c.loop-object.invariant
    (rw c.as_slice-file-items.ensures.objects at at)
    (rw c.target_features-feature-items.ensures at own)

pub returns-clause-ok : goal.returns-clause-ok
returns-clause-ok c =
    let le : length c.args.files.now ≤ c.loop-object.object =
    rw (← c.as_slice-file-items.ensures.objects) c.loop-object-test.false in
    known_clear c.args.files.now c.loop-object.object c.loop-object.invariant le
