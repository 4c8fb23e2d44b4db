use Rattle.std.proofs.Common.{◌≡◌, ◌↔◌, Contains, Vec, Global, sym, subst, List}
use Rattle.std.proofs.lemmas.Result.{IfOk-weaker}
use Rattle.wl_symbols.specs.Roots.{IsRoot}
use Rattle.wl_symbols.specs.Units.{units_of}
use Rattle.wl_symbols.specs.declared.units.LinkUnit.{LinkUnit}
use Rattle.wl_live.specs.Table.{roots}
use Rattle.wl_live.proofs.RootLaws.{in_roots, roots_in}
use Rattle.wl_live.proofs.graphing.roots_of.Goals as goal

pub returns : goal.returns
returns c =
    let link = c.args.symbols.now in
    IfOk-weaker {X = Vec LinkUnit Global} c.collect_roots.result (λ v. v.items ≡ roots link c.args.numbers.now) (λ v. (u : LinkUnit) → Contains v.items u ↔ IsRoot link u)
    (λ v is u.
    let here : v.items ≡ roots link (units_of link.objects) = rw c.requires at is in
    (λ m. in_roots link u (subst (λ (l : List LinkUnit). Contains l u) here m), λ r. subst (λ (l : List LinkUnit). Contains l u) (sym here) (roots_in link u r)))
    c.collect_roots.ensures
