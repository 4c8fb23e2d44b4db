use Rattle.std.proofs.Common.{◌≡◌, ◌∙◌, ◌≤◌, ℕ, List, length, map, sym, ap, subst, arith}
use Rattle.std.specs.List.{All, AllZip}
use Rattle.std.proofs.lemmas.List.Elements.{All-from_recursion}
use Rattle.std.proofs.lemmas.Result.{on_ok_weaker}
use Rattle.wl_module.specs.Bodies.{Body}
use Rattle.wl_plan.specs.Bodies.{IsMovedIn}
use Rattle.wl_plan.proofs.PositionLaws.{position_of, positions_within, run_moved, vector_is}
use Rattle.wl_plan.proofs.positions.moved_in.Goals as goal

pub rewrite-requires-clause-fields : goal.rewrite-requires-clause-fields
rewrite-requires-clause-fields c =
    let body : Body = c.args.body.now in
    let run = c.args.run.now in
    let fields : c.deref_mut.result.now ≡ map position_of run =
    c.deref_mut.ensures.value ∙ c.in_ok-set_positions.ensures in
    let all : All (λ p. p ≤ length body.bytes) (map position_of run) =
    All-from_recursion (λ p. p ≤ length body.bytes) (map position_of run)
    (positions_within c.args.renumbering.now.input.now c.args.site.0 body run c.requires.there) in
    subst (λ (ps : List ℕ). All (λ p. p ≤ length body.bytes) ps) (sym fields) all

pub returns-clause-positions : goal.returns-clause-positions
returns-clause-positions c =
    let body : Body = c.args.body.now in
    let run = c.args.run.now in
    let input = c.args.renumbering.now.input.now in
    let g = c.args.renumbering.now.placing.now in
    let old = c.set_positions.new.fields.items in
    let new = c.rewrite.new.fields in
    let fields : c.deref_mut.result.now ≡ map position_of run =
    c.deref_mut.ensures.value ∙ c.in_ok-set_positions.ensures in
    let long : length new ≡ length old =
    c.rewrite.ensures.len ∙ ap (λ (ps : List ℕ). length ps) c.deref_mut.ensures.value in
    let count : c.set_positions.new.fields.len ≡ length old =
    omega (arith, c.set_positions.new.fields.ok.0) in
    on_ok_weaker c.rewrite.result (λ moved. subst (λ (ps : List ℕ). AllZip (IsMovedIn input g) run ps)
    (sym (vector_is new old c.set_positions.new.fields.len long count))
    (run_moved input g c.args.site.0 body run c.deref_mut.result.now new fields c.requires.there moved))
    c.rewrite.ensures.moved
