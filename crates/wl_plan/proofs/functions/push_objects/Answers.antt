use Rattle.std.proofs.Common.{◌∙◌, ◌≤◌, List, [], length, ap, subst, sym}
use Rattle.wl_linking.specs.Object.{Object}
use Rattle.wl_bind.specs.IndexMaps.{IsIndexMap}
use Rattle.wl_index.specs.declared.index_map.WasmObjectIndexMap.{WasmObjectIndexMap}
use Rattle.wl_lists.proofs.Rows.{object_here, row_within}
use Rattle.wl_plan.proofs.FunctionLaws.{adds_none, objects_all, objects_more, types_in_row}
use Rattle.wl_plan.proofs.functions.push_objects.Goals as goal

pub loop-object-init : goal.loop-object-init
loop-object-init c = adds_none c.args.input.now c.args.functions.now.items

pub bounds-maps-object : goal.bounds-maps-object
bounds-maps-object c =
    let objects = c.args.input.now.link.objects in
    let o = c.index-files-object in
    row_within (IsIndexMap c.args.input.now) objects c.args.maps.now c.loop-object.object o.result
    c.requires.maps
    (object_here objects c.args.files.now c.loop-object.object o.result c.requires.files
    c.loop-object-test.true o.is)

pub push_functions-requires-clause-here : goal.push_functions-requires-clause-here
push_functions-requires-clause-here c =
    let o = c.index-files-object in
    object_here c.args.input.now.link.objects c.args.files.now c.loop-object.object o.result
    c.requires.files c.loop-object-test.true o.is

pub push_functions-requires-clause-types : goal.push_functions-requires-clause-types
push_functions-requires-clause-types c =
    let input = c.args.input.now in
    let k = c.loop-object.object in
    let o = c.index-files-object in
    let m = c.index-maps-object in
    types_in_row input c.args.maps.now k o.result m.result c.as_slice-types.result.now c.requires.maps
    (object_here input.link.objects c.args.files.now k o.result c.requires.files
    c.loop-object-test.true o.is) m.is
    (c.as_slice-types.ensures ∙ ap (λ (m : WasmObjectIndexMap). m.type_indices) (sym m.is))

pub loop-object-preserved : goal.loop-object-preserved
loop-object-preserved c =
    let input = c.args.input.now in
    let k = c.loop-object.object in
    let o = c.index-files-object in
    objects_more input k o.result [] c.args.functions.now.items c.loop-object.functions.items
    c.push_functions.new.functions.items
    (object_here input.link.objects c.args.files.now k o.result c.requires.files
    c.loop-object-test.true o.is)
    c.in_ok-push_functions.ensures c.loop-object.invariant

pub returns : goal.returns
returns c =
    objects_all c.args.input.now c.loop-object.object c.args.functions.now.items
    c.loop-object.functions.items
    (subst (λ (os : List Object). length os ≤ c.loop-object.object) c.requires.files
    c.loop-object-test.false)
    c.loop-object.invariant
