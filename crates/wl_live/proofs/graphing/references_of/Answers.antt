use Rattle.std.proofs.Common.{◌≡◌, ◌↔◌, ◌∙◌, [], true, ap, subst, sym, length, slice_get, Contains, List, Some, None, Vec, Global}
use Rattle.std.proofs.lemmas.Bool.{ltb-true, ltb-false}
use Rattle.std.proofs.lemmas.Option.{slice_get-get_or, slice_get_past}
use Rattle.std.proofs.lemmas.Result.{IfOk-weaker}
use Rattle.wl_symbols.specs.References.{Refers}
use Rattle.wl_symbols.specs.Units.{units_of, exists}
use Rattle.wl_symbols.specs.declared.units.LinkUnit.{LinkUnit}
use Rattle.wl_live.specs.Facts.{Facts}
use Rattle.wl_live.specs.Table.{object_references}
use Rattle.wl_live.proofs.FollowedLaws.{listed_how, unlisted_how, how_refers}
use Rattle.wl_live.proofs.ReferenceLaws.{How, refers_to}
use Rattle.wl_live.proofs.graphing.references_of.Goals as goal

pub returns-in-Some-clause-how : goal.returns-in-Some-clause-how
returns-in-Some-clause-how c =
    let link = c.args.symbols.now in
    let u = c.args.unit in
    let facts = c.args.facts.now in
    let at : slice_get facts u.object ≡ Some c.in-Some.said.now = slice_get-get_or facts u.object c.in-Some.said.now (ltb-true u.object (length facts) (sym c.in-Some.ensures.lookup.0)) ∙ ap (λ (f : Facts). Some f) (sym c.in-Some.ensures.lookup.1) in
    IfOk-weaker {X = Vec LinkUnit Global} c.references_in.result (λ list. (v : LinkUnit) → Contains list.items v ↔ Contains (object_references link c.args.numbers.now u.object c.in-Some.said.now) (refers_to u v)) (λ list. (v : LinkUnit) → Contains list.items v ↔ How link u v)
    (λ list listed. listed_how c.numbers_are_one.ensures.one link c.args.numbers.now facts c.in-Some.said.now u list.items c.requires.units c.requires.facts at listed)
    c.references_in.ensures

pub returns-in-Some-clause-refers : goal.returns-in-Some-clause-refers
returns-in-Some-clause-refers c =
    let link = c.args.symbols.now in
    let u = c.args.unit in
    let facts = c.args.facts.now in
    let at : slice_get facts u.object ≡ Some c.in-Some.said.now = slice_get-get_or facts u.object c.in-Some.said.now (ltb-true u.object (length facts) (sym c.in-Some.ensures.lookup.0)) ∙ ap (λ (f : Facts). Some f) (sym c.in-Some.ensures.lookup.1) in
    IfOk-weaker {X = Vec LinkUnit Global} c.references_in.result (λ list. (v : LinkUnit) → Contains list.items v ↔ Contains (object_references link c.args.numbers.now u.object c.in-Some.said.now) (refers_to u v)) (λ list. (v : LinkUnit) → exists (units_of link.objects) u ≡ true → exists (units_of link.objects) v ≡ true → Contains list.items v ↔ Refers link u v)
    (λ list listed. how_refers link u list.items (listed_how c.numbers_are_one.ensures.one link c.args.numbers.now facts c.in-Some.said.now u list.items c.requires.units c.requires.facts at listed))
    c.references_in.ensures

pub returns-in-None-clause-how : goal.returns-in-None-clause-how
returns-in-None-clause-how c =
    let link = c.args.symbols.now in
    let u = c.args.unit in
    let facts = c.args.facts.now in
    let none : slice_get facts u.object ≡ None = slice_get_past facts u.object (ltb-false u.object (length facts) (sym c.in-None.ensures.lookup.0)) in
    let empty : c.new.result.items ≡ [] = c.new.ensures.items in
    λ v. subst (λ (l : List LinkUnit). Contains l v ↔ How link u v) (sym empty) (unlisted_how link facts u c.requires.facts none v)

pub returns-in-None-clause-refers : goal.returns-in-None-clause-refers
returns-in-None-clause-refers c =
    let link = c.args.symbols.now in
    let u = c.args.unit in
    let facts = c.args.facts.now in
    let none : slice_get facts u.object ≡ None = slice_get_past facts u.object (ltb-false u.object (length facts) (sym c.in-None.ensures.lookup.0)) in
    let empty : c.new.result.items ≡ [] = c.new.ensures.items in
    how_refers link u c.new.result.items (λ v. subst (λ (l : List LinkUnit). Contains l v ↔ How link u v) (sym empty) (unlisted_how link facts u c.requires.facts none v))
