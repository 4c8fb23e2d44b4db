use Rattle.std.proofs.Common.{◌<◌, ℕ, List, length, rules, sym, subst}
use Rattle.wl_bind.specs.FunctionSpace.{function_space, local_functions}
use Rattle.wl_bind.specs.GlobalSpace.{global_space, local_globals}
use Rattle.wl_bind.specs.IndexMaps.{IsIndexMap}
use Rattle.wl_lists.proofs.Rows.{row_more}
use Rattle.wl_bind.specs.OutputTypes.{AreTypeIndices}
use Rattle.wl_bind.specs.Parts.{AreIndicesOf, AreRows}
use Rattle.wl_bind.proofs.index_maps.index_maps_of.Goals as goal

pub index_map-requires-clause-sources : goal.index_map-requires-clause-sources
index_map-requires-clause-sources c =
    let input = c.args.numbering.now.input.now in
    record {
      numbering = c.requires.numbering;
      types = subst (λ (rows : List (List ℕ)). AreRows (AreTypeIndices input) 0 input.link.objects rows)
          (sym c.as_slice.ensures) c.requires.types.indices;
      functions = subst (λ (rows : List (List ℕ)). AreRows
          (λ object o. AreIndicesOf (function_space input) (local_functions input object o)) 0 input.link.objects rows)
          (sym c.as_slice-2.ensures.value) c.in_ok-functions.ensures;
      globals = subst (λ (rows : List (List ℕ)). AreRows
          (λ object o. AreIndicesOf (global_space input) (local_globals input object o)) 0 input.link.objects rows)
          (sym c.as_slice-3.ensures.value) c.in_ok-globals.ensures;
    }

pub loop-object-preserved : goal.loop-object-preserved
loop-object-preserved c =
    let input = c.args.numbering.now.input.now in
    let objects = input.link.objects in
    let k = c.loop-object.object in
    let lt : k < length objects = search rules in
    row_more (IsIndexMap input) objects c.loop-object.maps c.push.new.self k c.in_ok-index_map.field-0 lt
    c.in_ok-index_map.ensures c.in_ok-push.ensures.ok c.loop-object.invariant
