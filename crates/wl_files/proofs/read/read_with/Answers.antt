use Rattle.std.proofs.Common.{◌∙◌, refl}
use Rattle.std.proofs.lemmas.Result.{err_from_is_err_and}
use Rattle.wl_files.proofs.Reading.{reads_at_start, reads_more, stops_more, all_at_end, less_left}
use Rattle.wl_files.proofs.read.read_with.Goals as goal

pub loop-ended-init : goal.loop-ended-init
loop-ended-init g c = let begun = c.in_ok-begin.ensures in record {
  reads = rw c.new-bytes.ensures.items (reads_at_start (g.F.Files.state c.args.files.now) (g.F.Files.state c.begin.new.self) c.args.name.now c.args.limit begun.begun begun.closed begun.names begun.clean begun.given begun.rest);
  unfailed = begun.failed;
  room = refl;
  calm = λ calm held. begun.stays_calm calm;
}

pub returns-in_err-ended-clause-err : goal.returns-in_err-ended-clause-err
returns-in_err-ended-clause-err g c =
    let p = err_from_is_err_and c.from_residual-in_err-ended.result c.from_residual-in_err-ended.ensures.1 in
    rw (p.1, p.2) (stops_more _ (g.F.Files.state c.loop-ended.files) (g.F.Files.state c.read_more.new.files) _ c.loop-ended.bytes.items c.args.limit c.loop-ended.ended _ c.loop-ended.invariant.reads c.in_err-ended.ensures.err)

pub returns-in_err-ended-clause-calm : goal.returns-in_err-ended-clause-calm
returns-in_err-ended-clause-calm g c = λ calm held.
    let p = err_from_is_err_and c.from_residual-in_err-ended.result c.from_residual-in_err-ended.ensures.1 in
    let after = c.in_err-ended.ensures.calm (c.loop-ended.invariant.calm calm held) c.loop-ended.invariant.reads.closed in
    (after.0, after.1 ∙ c.loop-ended.invariant.reads.clean, rw (p.1, p.2) after.2)

pub loop-ended-smaller : goal.loop-ended-smaller
loop-ended-smaller g c =
    let less = less_left (g.F.Files.state c.loop-ended.files) (g.F.Files.state c.read_more.new.files) c.loop-ended.bytes.items c.read_more.new.bytes.items c.args.limit c.in_ok-ended.ended c.in_ok-ended.ensures.more c.in_ok-ended.ensures.within in
    rw c.loop-ended-test.true less

pub loop-ended-preserved : goal.loop-ended-preserved
loop-ended-preserved g c = record {
  reads = reads_more _ (g.F.Files.state c.loop-ended.files) (g.F.Files.state c.read_more.new.files) _ c.loop-ended.bytes.items c.read_more.new.bytes.items c.args.limit c.loop-ended.ended c.in_ok-ended.ended c.loop-ended.invariant.reads c.in_ok-ended.ensures.more c.in_ok-ended.ensures.within c.in_ok-ended.ensures.same c.in_ok-ended.ensures.clean;
  unfailed = c.in_ok-ended.ensures.clean.failed ∙ c.loop-ended.invariant.unfailed;
  room = c.in_ok-ended.ensures.piece ∙ c.loop-ended.invariant.room;
  calm = λ calm held. (c.in_ok-ended.ensures.calm (c.loop-ended.invariant.calm calm held) c.loop-ended.invariant.reads.closed).0;
}

pub returns-clause-ok : goal.returns-clause-ok
returns-clause-ok g c = all_at_end (g.F.Files.state c.args.files.now).names c.args.name.now c.loop-ended.bytes.items (g.F.Files.state c.loop-ended.files).rest c.loop-ended.invariant.reads.front (c.loop-ended.invariant.reads.at_end c.loop-ended-test.false)

pub returns-clause-calm : goal.returns-clause-calm
returns-clause-calm g c = λ calm held. (c.loop-ended.invariant.calm calm held, c.loop-ended.invariant.reads.clean, tt)
