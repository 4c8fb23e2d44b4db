use Rattle.std.proofs.Common.{◌≡◌, ◌+◌, ◌++◌, ◌∷◌, [], length, length-append}
use Rattle.wl_plan.proofs.ParsingLaws.{parses_more, bad_object, all_taken}
use Rattle.wl_plan.proofs.parsing.parse_objects.Goals as goal

pub returns-in-Err-clause-err : goal.returns-in-Err-clause-err
returns-in-Err-clause-err c =
    let files = c.loop-bytes.files in
    rw (c.link_error.ensures, c.len-in-Err.ensures) (bad_object files c.args.objects.now (length files) c.in-Some.bytes.now c.in-Err.error c.loop-bytes.invariant (rw c.len.ensures at c.in-Some.ensures.bytes) c.in-Err.ensures.fault)

pub returns-clause-ok : goal.returns-clause-ok
returns-clause-ok c = all_taken c.loop-bytes.files c.args.objects.now (length c.loop-bytes.files) c.loop-bytes.invariant (rw c.len.ensures at c.in_default.ensures.bytes)

pub loop-bytes-preserved : goal.loop-bytes-preserved
loop-bytes-preserved c =
    let files = c.loop-bytes.files in
    let more = parses_more files c.args.objects.now (length files) c.in-Ok.file c.in-Some.bytes.now c.loop-bytes.invariant (rw c.len.ensures at c.in-Some.ensures.bytes) c.in-Ok.ensures.sound in
    let longer : length (files ++ c.in-Ok.file ∷ []) ≡ length files + 1 = length-append files (c.in-Ok.file ∷ []) in
    rw (c.in-Ok-push.ensures.pushed, longer) more
