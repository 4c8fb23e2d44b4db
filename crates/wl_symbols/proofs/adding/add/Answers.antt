use Rattle.std.proofs.Common.{◌∙◌, refl}
use Rattle.wl_symbols.specs.Adding.{firsts_in}
use Rattle.wl_symbols.proofs.FirstLaws.{adds_one}
use Rattle.wl_symbols.proofs.adding.add.Goals as goal

pub returns-clause-adds : goal.returns-clause-adds
returns-clause-adds g c =
    adds_one (firsts_in c.args.names.now.names.firsts) (firsts_in c.put.new.self.names.firsts) c.args.name.now c.args.strength c.args.place c.firsts-firsts.result c.firsts-firsts.ensures.value c.in_default.ensures (λ q. c.in_ok-put.ensures.ok q ∙ rw c.with.ensures refl)
