use Rattle.std.proofs.Common.{◌≡◌, ◌++◌, ◌∙◌, [], ap, sym, refl, arith, drop}
use Rattle.std.proofs.lemmas.List.{append-nil, drop_all}
use Rattle.wl_live.specs.Facts.{section_uses}
use Rattle.wl_live.proofs.object_facts.push_uses.Goals as goal

pub returns : goal.returns
returns c =
    let done : section_uses c.args.kind (drop c.loop-i.i c.args.relocations.now) (drop c.loop-i.i c.args.sites.now) ≡ [] =
    rw (drop_all c.loop-i.i c.args.relocations.now (omega arith)) refl in
    sym (append-nil c.loop-i.list.items) ∙ (ap (λ x. c.loop-i.list.items ++ x) (sym done) ∙ c.loop-i.invariant)
