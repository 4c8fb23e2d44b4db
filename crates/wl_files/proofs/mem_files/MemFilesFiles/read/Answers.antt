use Rattle.std.proofs.Common.{rules, length}
use Rattle.wl_files.specs.Held.{opened}
use Rattle.wl_files.proofs.Memory.{gives}
use Rattle.wl_files.proofs.mem_files.MemFilesFiles.read.Goals as goal

pub returns-clause-rest : goal.returns-clause-rest
returns-clause-rest c = let s = c.args.self.now in
    gives (opened s.files.items s.place) c.give-count.new.buf s.given c.give-count.result s.piece (length c.args.buf.now) s.gives_some (search rules) (search rules) (search rules)
