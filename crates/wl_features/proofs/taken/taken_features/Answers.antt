use Rattle.std.proofs.Common.{◌≤◌, length}
use Rattle.std.proofs.lemmas.List.Filters.{dedup_is}
use Rattle.wl_symbols.specs.Link.{link_of}
use Rattle.wl_features.proofs.TakenLaws.{is_same, names_all, taken_from}
use Rattle.wl_features.proofs.taken.taken_features.Goals as goal

pub returns : goal.returns
returns c =
    let files = c.args.files.now in
    let link = link_of files c.args.args.now in
    let all = c.push_texts.new.names.items in
    let sorted = c.sort_unstable.new.self.items in
    let le : length files ≤ c.loop-file.file-index = rw (← c.as_slice-file-items.ensures.objects)
    c.loop-file-test.false in
    let is = names_all link c.loop-file.file-index c.loop-file.names.items all le
    c.loop-file.invariant c.in_ok-push_texts.ensures in
    let kept = dedup_is is_same sorted _ c.dedup.ensures.filtered in
    rw kept (taken_from link all sorted is c.sort_unstable.ensures.permutation
    c.sort_unstable.ensures.sorted)
