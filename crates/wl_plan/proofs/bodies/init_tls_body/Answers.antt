use Rattle.std.proofs.Common.{◌≡◌, ◌∙◌, ◌≤◌, ap, arith, length, List, refl, rules, subst, sym}
use Rattle.std.specs.List.{AllByRecursion, AllZip}
use Rattle.wl_data.specs.DataPlaces.{in_one_row}
use Rattle.wl_data.specs.Segments.{SegmentLayout}
use Rattle.wl_synth.specs.Bodies.{ThreadBlock, init_tls_ops, thread_block}
use Rattle.wl_synth.specs.declared.parts.TlsGotFixup.{TlsGotFixup}
use Rattle.wl_linking.specs.declared.error.LinkError.{LinkError}
use Rattle.wl_index.specs.declared.index.TheConstants.{MAX_ENTRIES}
use Rattle.wl_plan.specs.Bodies.{AreInitTlsOps}
use Rattle.wl_plan.specs.Threads.{IsGotFixup, got_places, tls_pointers}
use Rattle.wl_places.specs.Copies.{copies_from, is_filled_template, template_copies, AreSmallLayouts}
use Rattle.wl_plan.specs.steps.Threads.{IsUnspelled}
use Rattle.wl_plan.proofs.ThreadLaws.{row_length, unspelled_by}
use Rattle.wl_plan.proofs.bodies.init_tls_body.Goals as goal

pub all_copies-requires-clause-small : goal.all_copies-requires-clause-small
all_copies-requires-clause-small c =
    let s = c.args.sources.now in
    let g = s.book.now.placing.now in
    let same : c.as_slice-layouts.result.now ≡ g.places.layouts = search rules in
    subst (λ (rows : List (List SegmentLayout)). AllByRecursion AreSmallLayouts rows) (sym same)
    (c.segments_are_small.ensures.small s.book.now.input.now g c.requires.whole c.requires.sources.book.placed)

pub all_copies-requires-clause-room : goal.all_copies-requires-clause-room
all_copies-requires-clause-room c =
    let g = c.args.sources.now.book.now.placing.now in
    let same : c.as_slice-layouts.result.now ≡ g.places.layouts = search rules in
    let room = c.requires.room in
    subst (λ (rows : List (List SegmentLayout)). length (in_one_row rows) ≤ MAX_ENTRIES) (sym same)
    (omega (arith, row_length 0 g.places.layouts, room))

pub returns-in-Ok-clause-ok : goal.returns-in-Ok-clause-ok
returns-in-Ok-clause-ok c =
    let s = c.args.sources.now in
    let input = s.book.now.input.now in
    let g = s.book.now.placing.now in
    let base = c.args.base_global in
    let same : c.as_slice-layouts.result.now ≡ g.places.layouts = search rules in
    let copies : c.deref.result.now ≡ template_copies g =
    c.deref.ensures.value
    ∙ (c.in_ok-copies.ensures
    ∙ ap (λ (rows : List (List SegmentLayout)). copies_from is_filled_template 0 (in_one_row rows)) same) in
    let pointers : c.deref-2.result.now ≡ tls_pointers input g = c.deref-2.ensures.value ∙ c.in_ok-pointers.ensures in
    let got : AllZip (IsGotFixup input) (got_places input g) c.deref-3.result.now =
    subst (λ (fs : List TlsGotFixup). AllZip (IsGotFixup input) (got_places input g) fs) (sym c.deref-3.ensures.value)
    c.in_ok-got.ensures.ok in
    let block : ThreadBlock =
    thread_block base g.places.tls_size c.deref.result.now c.deref-2.result.now c.deref-3.result.now in
    record {
      ops = init_tls_ops block;
      are = record {
        block = block;
        is_block = record { base = c.requires.base; size = refl; templates = copies; pointers = pointers; got = got };
        are = refl;
      };
      encoded = c.in-Ok.ensures;
    }

pub returns-clause-err : goal.returns-clause-err
returns-clause-err c =
    let s = c.args.sources.now in
    let input = s.book.now.input.now in
    let g = s.book.now.placing.now in
    let base = c.args.base_global in
    let same : c.as_slice-layouts.result.now ≡ g.places.layouts = search rules in
    let copies : c.deref.result.now ≡ template_copies g =
    c.deref.ensures.value
    ∙ (c.in_ok-copies.ensures
    ∙ ap (λ (rows : List (List SegmentLayout)). copies_from is_filled_template 0 (in_one_row rows)) same) in
    let pointers : c.deref-2.result.now ≡ tls_pointers input g = c.deref-2.ensures.value ∙ c.in_ok-pointers.ensures in
    let got : AllZip (IsGotFixup input) (got_places input g) c.deref-3.result.now =
    subst (λ (fs : List TlsGotFixup). AllZip (IsGotFixup input) (got_places input g) fs) (sym c.deref-3.ensures.value)
    c.in_ok-got.ensures.ok in
    let block : ThreadBlock =
    thread_block base g.places.tls_size c.deref.result.now c.deref-2.result.now c.deref-3.result.now in
    subst (λ (e : LinkError). IsUnspelled (AreInitTlsOps input g) e) (sym c.body_error.ensures)
    (unspelled_by (AreInitTlsOps input g) (init_tls_ops block) c.in-Err.error
    (record {
      block = block;
      is_block = record { base = c.requires.base; size = refl; templates = copies; pointers = pointers; got = got };
      are = refl;
    }) c.in-Err.ensures)
