use Rattle.std.proofs.Common.{bytes_eq}
use Rattle.std.proofs.lemmas.Map.Text.{hash_map_updates_str}
use Rattle.wl_symbols.proofs.FirstLaws.{unwrap_or-cond}
use Rattle.wl_symbols.proofs.names.CountedNames.put.Goals as goal

pub returns-clause-ok : goal.returns-clause-ok
returns-clause-ok g c = λ q.
    let u = hash_map_updates_str c.args.name.now c.args.self.now.names.firsts c.insert.new.self _ c.in_ok-insert.ensures.updates q in
    rw u (unwrap_or-cond (bytes_eq c.args.name.now q) _ _ _)
