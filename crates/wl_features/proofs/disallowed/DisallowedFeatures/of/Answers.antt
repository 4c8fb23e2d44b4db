use Rattle.std.proofs.Common.{length, refl}
use Rattle.std.proofs.lemmas.Option.{slice_get_read}
use Rattle.wl_features.specs.Disallowing.{first_in}
use Rattle.wl_features.proofs.DisallowingLaws.{first_more}
use Rattle.wl_features.proofs.disallowed.DisallowedFeatures.of.Goals as goal

pub loop-object-preserved : goal.loop-object-preserved
loop-object-preserved c = λ name.
    let files = c.as_slice-file-items.result.now in
    let k = c.loop-object.object in
    let o = c.file-item.result in
    let at = slice_get_read files (length files) k o refl c.loop-object-test.true c.file-item.is in
    rw (c.in_ok-add_features.ensures name, c.target_features.ensures)
    (first_more c.args.files.now name k o (rw c.as_slice-file-items.ensures.objects at at)
    (first_in c.loop-object.firsts name) (c.loop-object.invariant name))
