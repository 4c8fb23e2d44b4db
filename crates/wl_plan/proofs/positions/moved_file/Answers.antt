use Rattle.std.proofs.Common.{◌≡◌, ◌<◌, List, length, Some, slice_get, sym, subst}
use Rattle.wl_module.specs.Bodies.{Body}
use Rattle.wl_lists.proofs.Places.{item_at}
use Rattle.wl_plan.proofs.BodyLaws.{body_at}
use Rattle.wl_plan.proofs.PositionLaws.{first_here, all_there}
use Rattle.wl_plan.proofs.positions.moved_file.Goals as goal

pub moved_in-requires-clause-here : goal.moved_in-requires-clause-here
moved_in-requires-clause-here c =
    let first = c.args.first in
    let body = c.index-bodies-first.result in
    let lt : first.site.unit < length c.bodies.result.now =
    subst (λ (bs : List Body). first.site.unit < length bs) (sym c.bodies.ensures) c.requires.unit in
    let there = subst (λ (bs : List Body). slice_get bs first.site.unit ≡ Some body) c.bodies.ensures
    (item_at c.bodies.result.now first.site.unit body lt c.index-bodies-first.is) in
    body_at c.args.renumbering.now.input.now first.object first.site.unit c.args.file.now body
    c.requires.here there

pub moved_in-requires-clause-kept : goal.moved_in-requires-clause-kept
moved_in-requires-clause-kept c =
    first_here c.whole_objects.ensures.fitting c.args.renumbering.now.input.now c.args.first
    c.args.run.now c.requires.renumbering.sound c.requires.kept c.requires.at c.requires.place

pub moved_in-requires-clause-there : goal.moved_in-requires-clause-there
moved_in-requires-clause-there c =
    let first = c.args.first in
    let input = c.args.renumbering.now.input.now in
    let body = c.index-bodies-first.result in
    let lt : first.site.unit < length c.bodies.result.now =
    subst (λ (bs : List Body). first.site.unit < length bs) (sym c.bodies.ensures) c.requires.unit in
    let there = subst (λ (bs : List Body). slice_get bs first.site.unit ≡ Some body) c.bodies.ensures
    (item_at c.bodies.result.now first.site.unit body lt c.index-bodies-first.is) in
    all_there c.whole_objects.ensures.fitting input first body c.args.run.now
    c.requires.renumbering.sound c.requires.kept c.requires.at c.requires.place
    (body_at input first.object first.site.unit c.args.file.now body c.requires.here there)
    c.requires.one
