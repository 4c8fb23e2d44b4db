use Rattle.std.proofs.Common.{◌≡◌, ◌∙◌, ◌≤◌, ℕ, List, length, refl, sym, ap, subst}
use Rattle.std.specs.List.{All}
use Rattle.std.specs.Cow.{cow_slice_items}
use Rattle.wl_module.specs.Bodies.{Body}
use Rattle.wl_module.specs.Slices.{is_owned}
use Rattle.wl_bytes.specs.Outcome.{HasCause}
use Rattle.wl_ops.specs.Rewriting.{new_index, RemapFault}
use Rattle.wl_plan.proofs.BodyLaws.{HasSoundBody, object_is_there, no_remap_fault, told_memory, renumbered_is, fields_moved}
use Rattle.wl_plan.proofs.rewriting.rewrite.Goals as goal

pub row-requires-clause-numbers : goal.row-requires-clause-numbers
row-requires-clause-numbers c = c.requires.renumbering.numbers

pub row-requires-clause-within : goal.row-requires-clause-within
row-requires-clause-within c =
    object_is_there c.args.renumbering.now.input.now c.args.site.0 c.args.site.1 c.args.body.now
    c.requires.here

pub remap_body_data_indices-requires-clause-fields :
    goal.remap_body_data_indices-requires-clause-fields
remap_body_data_indices-requires-clause-fields c =
    let same : cow_slice_items c.in_ok-bytes.bytes ≡ c.args.body.now.bytes =
    c.in_ok-bytes.ensures.bytes ∙ ap (λ (b : Body). b.bytes) c.body.view_is in
    subst (λ (t : List ℕ). All (λ p. p ≤ length t) c.args.fields.now) (sym same) c.requires.fields

pub returns-clause-err : goal.returns-clause-err
returns-clause-err c =
    let input = c.args.renumbering.now.input.now in
    let body : Body = c.args.body.now in
    let numbers = c.row.result.now in
    let h : HasSoundBody input c.args.site.0 body = record {
      sound = c.requires.renumbering.sound;
      function = c.args.site.1;
      here = c.requires.here;
      is_kept = c.requires.kept;
    } in
    let same : cow_slice_items c.in_ok-bytes.bytes ≡ body.bytes =
    c.in_ok-bytes.ensures.bytes ∙ ap (λ (b : Body). b.bytes) c.body.view_is in
    let fault = subst (λ (t : List ℕ). HasCause (λ e. RemapFault (new_index numbers) e t) c.in-Err.error) same
    c.in-Err.ensures.remaps.fault in
    c.link_error.ensures
    ∙ told_memory (λ e. RemapFault (new_index numbers) e body.bytes) c.args.site.0 c.in-Err.error
    fault
    (no_remap_fault c.live_units_are_closed.ensures.segment input c.args.renumbering.now.placing.now
    c.args.site.0 body numbers h c.row.ensures)

pub returns-in-Ok-clause-ok : goal.returns-in-Ok-clause-ok
returns-in-Ok-clause-ok c =
    let body : Body = c.args.body.now in
    let here = ap (λ (b : Body). b.bytes) c.body.view_is in
    let same : cow_slice_items c.in_ok-bytes.bytes ≡ body.bytes = c.in_ok-bytes.ensures.bytes ∙ here in
    let own : is_owned c.in_ok-bytes.bytes ≡ body.owned =
    c.in_ok-bytes.ensures.owned ∙ ap (λ (b : Body). b.owned) c.body.view_is in
    let owned = rw own at c.in-Ok.ensures.owned in
    renumbered_is c.args.renumbering.now.input.now c.args.renumbering.now.placing.now c.args.site.0
    c.args.site.1 body _ c.row.result.now _ _ _ _ _ c.requires.here c.row.ensures same
    c.in-Ok.ensures.remaps.sound refl owned (ap (λ (b : Body). b.code_offset) c.body.view_is) refl

pub returns-in-Ok-clause-moved : goal.returns-in-Ok-clause-moved
returns-in-Ok-clause-moved c =
    let body : Body = c.args.body.now in
    let same : cow_slice_items c.in_ok-bytes.bytes ≡ body.bytes =
    c.in_ok-bytes.ensures.bytes ∙ ap (λ (b : Body). b.bytes) c.body.view_is in
    fields_moved c.args.renumbering.now.input.now c.args.renumbering.now.placing.now c.args.site.0
    c.row.result.now _ _ _ _ body.bytes _ c.row.ensures same
    c.in-Ok.ensures.remaps.sound
