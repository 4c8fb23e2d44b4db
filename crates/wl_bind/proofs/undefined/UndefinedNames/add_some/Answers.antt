use Rattle.std.proofs.Common.{◌∙◌, ℕ, List, Option, Bor, ap, map, sym}
use Rattle.std.specs.Option.{option_map}
use Rattle.indexmap.specs.IndexSet.{insert_key}
use Rattle.wl_bind.specs.Undefined.{same_undefined}
use Rattle.wl_bind.specs.UndefinedSteps.{as_undefined, insert_some}
use Rattle.wl_bind.proofs.UndefinedLaws.{insert_as}
use Rattle.wl_bind.proofs.undefined.UndefinedNames.add_some.Goals as goal

pub returns-in_ok-insert-in-Some-clause-ok : goal.returns-in_ok-insert-in-Some-clause-ok
returns-in_ok-insert-in-Some-clause-ok c =
    let item = c.in-Some.item in
    ap (map as_undefined) c.in_ok-insert-in-Some.ensures.keys
    ∙ (insert_as item c.self.inside.names.keys
    ∙ (ap (λ names. insert_key same_undefined names (as_undefined item)) c.self.view_is
    ∙ ap (λ (o : Option (ℕ × Bor (List ℕ))). insert_some c.args.self.now (option_map as_undefined o)) (sym c.in-Some.is)))
