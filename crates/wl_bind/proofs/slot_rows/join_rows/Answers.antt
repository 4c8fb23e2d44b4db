use Rattle.std.proofs.Common.{◌≡◌, ◌⊎◌, ◌∙◌, ◌∷◌, ◌++◌, List, length, inl, inr, refl, sym, ap, append-nil, rules}
use Rattle.wl_bind.specs.steps.SlotRows.{joined_rows}
use Rattle.wl_bind.specs.declared.resolution.ObjectImportResolutions.{ObjectImportResolutions}
use Rattle.wl_bind.proofs.RowLaws.{one_more}
use Rattle.wl_bind.proofs.StubLaws.{none_joined}
use Rattle.wl_bind.proofs.slot_rows.join_rows.Goals as goal

pub loop-function_resolutions-preserved : goal.loop-function_resolutions-preserved
loop-function_resolutions-preserved c =
    let at = c.loop-function_resolutions in
    let left = at.function_resolutions-iterator in
    let rest = c.next.new.self in
    let fs = c.in-Some.function_resolutions in
    let gs = c.in-Some.global_resolutions in
    let functions : left.a.rest.items ≡ fs ∷ rest.a.rest.items = search rules in
    let globals : left.b.rest.items ≡ gs ∷ rest.b.rest.items = search rules in
    one_more (record { function_resolutions = fs; global_resolutions = gs }) at.rows.items c.push.new.self.items
    (joined_rows left.a.rest.items left.b.rest.items) (joined_rows rest.a.rest.items rest.b.rest.items)
    (joined_rows c.args.functions.items c.args.globals.items) (rw (functions, globals) refl) c.in_ok-push.ensures.items at.invariant

pub returns : goal.returns
returns c =
    let at = c.loop-function_resolutions in
    let left = at.function_resolutions-iterator in
    let functions : length left.a.rest.items ≡ left.a.rest.len = search rules in
    let globals : length left.b.rest.items ≡ left.b.rest.len = search rules in
    let ended : (length left.a.rest.items ≡ 0) ⊎ (length left.b.rest.items ≡ 0) =
    elim c.in-None.ensures.steps [ inl a ↦ inl (functions ∙ a.1.0) | inr b ↦ inr (globals ∙ b.1.0) ] in
    let none = none_joined left.a.rest.items left.b.rest.items ended in
    sym (append-nil at.rows.items) ∙ (ap (λ (rest : List ObjectImportResolutions). at.rows.items ++ rest) (sym none) ∙ at.invariant)
