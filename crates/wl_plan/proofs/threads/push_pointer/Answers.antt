use Rattle.std.proofs.Common.{◌≡◌, ◌∙◌, ◌++◌, Option, None, ap, append-nil, arith, sym}
use Rattle.std.specs.Option.{option_to_list}
use Rattle.std.proofs.lemmas.Option.{same_Some}
use Rattle.wl_synth.specs.declared.parts.TlsPointerFixup.{TlsPointerFixup}
use Rattle.wl_plan.specs.Running.{pointer_to}
use Rattle.wl_plan.specs.Threads.{place_in_block}
use Rattle.wl_output.specs.declared.fixups.FixupTo.{FixupTo}
use Rattle.wl_plan.proofs.DeferredLaws.{IsPlacedPointer, placed_pointer, start_there, value_has_no_pointer}
use Rattle.wl_plan.proofs.threads.push_pointer.Goals as goal

pub start-requires-clause-here : goal.start-requires-clause-here
start-requires-clause-here c =
    let input = c.args.book.now.input.now in
    let g = c.args.book.now.placing.now in
    let k = c.requires.kept in
    let p : IsPlacedPointer input g c.args.fixup.now =
    placed_pointer c.whole_objects.ensures.fitting c.segments_have_layouts.ensures c.places_end_in_time.ensures.block
    input g k.relocated c.args.fixup.now c.in-Deferred.offset c.requires.whole c.requires.book.placed k.kept k.is
    c.in-Deferred.is in
    p.has

pub overflow_add-start : goal.overflow_add-start
overflow_add-start c =
    let input = c.args.book.now.input.now in
    let g = c.args.book.now.placing.now in
    let k = c.requires.kept in
    let p : IsPlacedPointer input g c.args.fixup.now =
    placed_pointer c.whole_objects.ensures.fitting c.segments_have_layouts.ensures c.places_end_in_time.ensures.block
    input g k.relocated c.args.fixup.now c.in-Deferred.offset c.requires.whole c.requires.book.placed k.kept k.is
    c.in-Deferred.is in
    let same : p.start ≡ c.in-Some.start =
    same_Some p.start c.in-Some.start (sym p.begins
    ∙ (ap place_in_block (sym c.start.ensures) ∙ (sym c.place_in_block.ensures ∙ c.in-Some.is))) in
    let within = p.within in
    omega (arith, same, within)

pub returns-in-Value : goal.returns-in-Value
returns-in-Value c =
    let f = c.args.fixup.now in
    let start = start_there c.args.book.now.placing.now f in
    let old = c.args.pointers.now.items in
    let none : pointer_to f start f.to ≡ None =
    ap (λ (t : FixupTo). pointer_to f start t) c.in-Value.is
    ∙ value_has_no_pointer f start c.in-Value.value c.in-Value.addend_left in
    sym (ap (λ (o : Option TlsPointerFixup). old ++ option_to_list o) none ∙ append-nil old)
