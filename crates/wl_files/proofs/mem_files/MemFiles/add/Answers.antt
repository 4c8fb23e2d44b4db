use Rattle.std.proofs.Common.{refl, ap, Some}
use Rattle.wl_files.proofs.Memory.{held-push, left_of-push}
use Rattle.wl_files.proofs.mem_files.MemFiles.add.Goals as goal

pub returns-clause-ok : goal.returns-clause-ok
returns-clause-ok c = λ other. rw (c.in_ok-push.ensures.items, held-push, c.in_ok-bytes.ensures.items) refl

pub returns-clause-same : goal.returns-clause-same
returns-clause-same c = let s = c.args.self.now in record {
  begun = refl;
  closed = refl;
  failed = refl;
  given = refl;
  faults = refl;
  rest = rw c.in_ok-push.ensures.items (ap Some (left_of-push s.files.items _ s.place s.given s.placed));
}
