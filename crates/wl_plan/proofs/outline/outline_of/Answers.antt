use Rattle.std.proofs.Common.{◌≡◌, List, rules, subst, sym}
use Rattle.std.proofs.lemmas.Result.{err_from_is_err_and}
use Rattle.wl_bind.specs.IndexMaps.{AreIndexMaps}
use Rattle.wl_exports.specs.Sources.{HaveIndices}
use Rattle.wl_index.specs.declared.index_map.WasmObjectIndexMap.{WasmObjectIndexMap}
use Rattle.wl_plan.proofs.PlannedLaws.{index_maps_have}
use Rattle.wl_plan.proofs.outline.outline_of.Goals as goal

pub sources_of-sources-requires-clause-maps : goal.sources_of-sources-requires-clause-maps
sources_of-sources-requires-clause-maps c =
    let input = c.args.input.now in
    let same : c.as_slice.result.now ≡ c.in_ok-bindings.maps = search rules in
    subst (λ (ms : List WasmObjectIndexMap). HaveIndices input ms) (sym same)
    (index_maps_have input c.in_ok-bindings.maps c.in_ok-bindings.ensures.maps)

pub seen_of-requires-clause-maps : goal.seen_of-requires-clause-maps
seen_of-requires-clause-maps c =
    let input = c.args.input.now in
    let same : c.as_slice.result.now ≡ c.in_ok-bindings.maps = search rules in
    let maps : AreIndexMaps input c.as_slice.result.now =
    subst (λ (ms : List WasmObjectIndexMap). AreIndexMaps input ms) (sym same)
    c.in_ok-bindings.ensures.maps in
    subst (λ (ms : List WasmObjectIndexMap). AreIndexMaps input ms)
    (sym c.sources_of-sources.ensures.maps) maps

pub returns-in_err-interface-clause-err : goal.returns-in_err-interface-clause-err
returns-in_err-interface-clause-err c =
    let residual = c.from_residual-in_err-interface in
    let p = err_from_is_err_and residual.result residual.ensures.1 in
    rw (p.1, p.2) c.in_err-interface.ensures.err

pub returns-clause-outline : goal.returns-clause-outline
returns-clause-outline c = record {
  bindings = c.in_ok-bindings.ensures.bindings;
  functions = c.in_ok-interface.ensures.functions;
  interface = c.in_ok-interface.ensures.interface;
  features = c.requires.features;
}
