use Rattle.std.proofs.Common.{◌≡◌, ap, sym, subst, arith, List}
use Rattle.wl_linking.specs.Object.{Object}
use Rattle.wl_symbols.specs.Link.{Link}
use Rattle.wl_live.specs.Facts.{AreAllFacts}
use Rattle.wl_live.specs.Table.{most_steps}
use Rattle.wl_live.proofs.FactLaws.{most_steps-one}
use Rattle.wl_live.proofs.collecting.collect_live_counted.Goals as goal

pub returns-clause-cost : goal.returns-clause-cost
returns-clause-cost g c =
    let link = c.args.symbols.now in
    let objects : link.objects ≡ c.args.files.now = ap (λ (l : Link). l.objects) c.requires.fit in
    let found = c.in_ok-facts.facts.items in
    λ facts all.
    let same : most_steps link found ≡ most_steps link facts =
    most_steps-one c.numbers_are_one.ensures.one link found facts (subst (λ (os : List Object). AreAllFacts os found) (sym objects) c.in_ok-facts.ensures) (subst (λ (os : List Object). AreAllFacts os facts) (sym objects) all) in
    omega (arith, rw c.deref.ensures.value at c.collect_from_counted.ensures.cost, same)
