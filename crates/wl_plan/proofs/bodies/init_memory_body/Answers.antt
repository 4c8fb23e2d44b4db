use Rattle.std.proofs.Common.{◌≡◌, ◌∙◌, ◌≤◌, ap, arith, length, List, refl, rules, subst, sym}
use Rattle.std.specs.List.{AllByRecursion}
use Rattle.wl_data.specs.DataPlaces.{in_one_row}
use Rattle.wl_data.specs.Segments.{SegmentLayout}
use Rattle.wl_synth.specs.Bodies.{init_memory_ops}
use Rattle.wl_linking.specs.declared.error.LinkError.{LinkError}
use Rattle.wl_synth.specs.Encoding.{IsEncoded, EncodeFault}
use Rattle.wl_plan.specs.Bodies.{AreInitMemoryOps}
use Rattle.wl_synth.specs.declared.parts.PassiveSegmentCopy.{PassiveSegmentCopy}
use Rattle.wl_index.specs.declared.index.TheConstants.{MAX_ENTRIES}
use Rattle.wl_places.specs.Copies.{copies_from, shared_copies, AreSmallLayouts}
use Rattle.wl_plan.specs.steps.Threads.{IsUnspelled}
use Rattle.wl_plan.proofs.ThreadLaws.{row_length, unspelled_by}
use Rattle.wl_plan.proofs.bodies.init_memory_body.Goals as goal

pub all_copies-requires-clause-small : goal.all_copies-requires-clause-small
all_copies-requires-clause-small c =
    let g = c.args.placing.now in
    let same : c.as_slice-layouts.result.now ≡ g.places.layouts = search rules in
    subst (λ (rows : List (List SegmentLayout)). AllByRecursion AreSmallLayouts rows) (sym same)
    (c.segments_are_small.ensures.small c.args.input.now g c.requires.whole c.requires.placed)

pub all_copies-requires-clause-room : goal.all_copies-requires-clause-room
all_copies-requires-clause-room c =
    let g = c.args.placing.now in
    let same : c.as_slice-layouts.result.now ≡ g.places.layouts = search rules in
    let room = c.requires.room in
    subst (λ (rows : List (List SegmentLayout)). length (in_one_row rows) ≤ MAX_ENTRIES) (sym same)
    (omega (arith, row_length 0 g.places.layouts, room))

pub returns-in-Ok-clause-ok : goal.returns-in-Ok-clause-ok
returns-in-Ok-clause-ok c =
    let g = c.args.placing.now in
    let same : c.as_slice-layouts.result.now ≡ g.places.layouts = search rules in
    let copies : c.in_ok-copies.copies.items ≡ shared_copies g =
    c.in_ok-copies.ensures
    ∙ ap (λ (rows : List (List SegmentLayout)). copies_from (λ (l : SegmentLayout). l.shared_init) 0 (in_one_row rows)) same in
    let shown : c.deref.result.now ≡ shared_copies g = c.deref.ensures.value ∙ copies in
    record {
      ops = init_memory_ops c.args.flag (shared_copies g);
      are = record { flag = c.args.flag; flag_is = c.requires.flag; are = refl };
      encoded = subst (λ (cs : List PassiveSegmentCopy). IsEncoded (init_memory_ops c.args.flag cs) (c.in-Ok.body).items)
          shown c.in-Ok.ensures;
    }

pub returns-clause-err : goal.returns-clause-err
returns-clause-err c =
    let g = c.args.placing.now in
    let same : c.as_slice-layouts.result.now ≡ g.places.layouts = search rules in
    let copies : c.in_ok-copies.copies.items ≡ shared_copies g =
    c.in_ok-copies.ensures
    ∙ ap (λ (rows : List (List SegmentLayout)). copies_from (λ (l : SegmentLayout). l.shared_init) 0 (in_one_row rows)) same in
    let shown : c.deref.result.now ≡ shared_copies g = c.deref.ensures.value ∙ copies in
    let fault : EncodeFault (init_memory_ops c.args.flag (shared_copies g)) c.in-Err.error =
    subst (λ (cs : List PassiveSegmentCopy). EncodeFault (init_memory_ops c.args.flag cs) c.in-Err.error) shown c.in-Err.ensures in
    subst (λ (e : LinkError). IsUnspelled (AreInitMemoryOps g) e) (sym c.body_error.ensures)
    (unspelled_by (AreInitMemoryOps g) (init_memory_ops c.args.flag (shared_copies g)) c.in-Err.error
    (record { flag = c.args.flag; flag_is = c.requires.flag; are = refl }) fault)
