use Rattle.std.proofs.Common.{◌≡◌, ◌∙◌, List, ap, arith, length, rules}
use Rattle.std.proofs.lemmas.List.Sorted.{IsNonDecreasingBy-from_sort_by_key, answers_always}
use Rattle.wl_linking.specs.Object.{Object}
use Rattle.wl_lists.proofs.Places.{item_at}
use Rattle.wl_lists.proofs.Rows.{object_here, row_found, row_within, rows_length}
use Rattle.wl_bind.specs.IndexMaps.{IsIndexMap}
use Rattle.wl_ctors.specs.InitCalls.{priority_of}
use Rattle.wl_ctors.proofs.StepLaws.{calls_more, calls_all}
use Rattle.wl_ctors.proofs.calls.init_calls.Goals as goal

pub bounds-maps-object : goal.bounds-maps-object
bounds-maps-object c =
    let objects = c.args.input.now.link.objects in
    let same = c.as_slice-file-items.ensures.objects ∙ c.files.ensures.objects in
    let long : length c.as_slice-file-items.result.now ≡ length objects =
    ap (λ (os : List Object). length os) same in
    let rows = rows_length (IsIndexMap c.args.input.now) 0 objects c.args.maps.now c.requires.maps in
    omega (arith, c.loop-object-test.true, long, rows)

pub push_calls-requires-clause-here : goal.push_calls-requires-clause-here
push_calls-requires-clause-here c =
    object_here c.args.input.now.link.objects c.as_slice-file-items.result.now c.loop-object.object
    c.file-item.result (c.as_slice-file-items.ensures.objects ∙ c.files.ensures.objects)
    c.loop-object-test.true c.file-item.is

pub push_calls-requires-clause-map : goal.push_calls-requires-clause-map
push_calls-requires-clause-map c =
    let objects = c.args.input.now.link.objects in
    let maps = c.args.maps.now in
    let k = c.loop-object.object in
    let file = c.file-item.result in
    let IsMap = IsIndexMap c.args.input.now in
    let here = object_here objects c.as_slice-file-items.result.now k file
    (c.as_slice-file-items.ensures.objects ∙ c.files.ensures.objects) c.loop-object-test.true c.file-item.is in
    let within = row_within IsMap objects maps k file c.requires.maps here in
    row_found IsMap objects maps k file c.index-maps-object.result c.requires.maps here
    (item_at maps k c.index-maps-object.result within c.index-maps-object.is)

pub loop-object-preserved : goal.loop-object-preserved
loop-object-preserved c =
    calls_more c.args.input.now c.as_slice-file-items.result.now c.args.input.now.link.objects
    c.loop-object.object c.file-item.result c.loop-object.calls.items c.push_calls.new.calls.items
    (c.as_slice-file-items.ensures.objects ∙ c.files.ensures.objects) c.loop-object-test.true
    c.file-item.is c.loop-object.invariant c.in_ok-push_calls.ensures

pub returns : goal.returns
returns c =
    let each =
    calls_all c.args.input.now c.as_slice-file-items.result.now c.args.input.now.link.objects
    c.loop-object.object c.loop-object.calls.items
    (c.as_slice-file-items.ensures.objects ∙ c.files.ensures.objects) c.loop-object-test.false
    c.loop-object.invariant in
    rw c.new.ensures (record {
      all = c.loop-object.calls.items;
      each = each;
      order = record {
        ascending = IsNonDecreasingBy-from_sort_by_key priority_of _
            c.in_ok-sort_by_key.ensures.sorted (λ a r q k. search rules);
        stable = c.in_ok-sort_by_key.ensures.stable priority_of
            (answers_always _ _ _ (λ f a r g h. search rules));
      };
    })
