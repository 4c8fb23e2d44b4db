use Rattle.std.proofs.Common.{◌≡◌, List, rules, subst, sym}
use Rattle.std.proofs.lemmas.Result.{err_from_is_err_and}
use Rattle.wl_places.specs.Addresses.{IsAddressTooHigh}
use Rattle.wl_plan.specs.Faults.{placed_fault, value_steps}
use Rattle.wl_linking.proofs.StepLaws.{refuses_behind, refuses_memory}
use Rattle.wl_exports.specs.Sources.{HaveIndices}
use Rattle.wl_index.specs.declared.index_map.WasmObjectIndexMap.{WasmObjectIndexMap}
use Rattle.wl_plan.proofs.PlannedLaws.{export_refuses, low_clear, placed_ok, symbol_refuses, whole_maps_have}
use Rattle.wl_plan.proofs.plan.placed_parts.Goals as goal

pub returns-in_err-maps-clause-err : goal.returns-in_err-maps-clause-err
returns-in_err-maps-clause-err c =
    let residual = c.from_residual-in_err-maps in
    let p = err_from_is_err_and residual.result residual.ensures.1 in
    rw (p.1, p.2)
    (symbol_refuses c.args.input.now c.args.placing.now c.in_err-maps.field-0.0
    c.in_err-maps.ensures.err)

pub returns-in_err-check_exported-clause-err : goal.returns-in_err-check_exported-clause-err
returns-in_err-check_exported-clause-err c =
    let residual = c.from_residual-in_err-check_exported in
    let p = err_from_is_err_and residual.result residual.ensures.1 in
    let h = c.in_err-check_exported.ensures.err in
    rw (p.1, p.2)
    (export_refuses c.args.input.now c.args.placing.now c.in_err-check_exported.field-0.0 h.0 h.1)

pub output_parts-requires-clause-low : goal.output_parts-requires-clause-low
output_parts-requires-clause-low c =
    low_clear c.args.input.now c.args.placing.now c.in_ok-maps.ensures.low
    c.in_ok-check_exported.ensures.clear

pub returns-in_err-parts-clause-err : goal.returns-in_err-parts-clause-err
returns-in_err-parts-clause-err c =
    let residual = c.from_residual-in_err-parts in
    let p = err_from_is_err_and residual.result residual.ensures.1 in
    let g = c.args.placing.now in
    rw (p.1, p.2)
    (refuses_behind (IsAddressTooHigh c.args.input.now g) (value_steps c.args.input.now g)
    c.in_err-parts.field-0.0
    (low_clear c.args.input.now g c.in_ok-maps.ensures.low c.in_ok-check_exported.ensures.clear)
    c.in_err-parts.ensures.err)

pub returns-clause-clear : goal.returns-clause-clear
returns-clause-clear c =
    placed_ok c.args.input.now c.args.placing.now c.in_ok-maps.ensures.low
    c.in_ok-check_exported.ensures.clear c.in_ok-parts.ensures.clear

pub returns-in_err-starts-clause-err : goal.returns-in_err-starts-clause-err
returns-in_err-starts-clause-err c =
    let residual = c.from_residual in
    let p = err_from_is_err_and residual.result residual.ensures.1 in
    rw p.1 (refuses_memory (placed_fault c.args.input.now c.args.placing.now) p.0 p.2)

pub output_parts-requires-clause-things : goal.output_parts-requires-clause-things
output_parts-requires-clause-things c =
    let slice : c.as_slice-2.result.now ≡ c.in_ok-maps.maps = search rules in
    let functions : c.as_slice-3.result.now ≡ c.args.outline.now.functions = search rules in
    let wrappers : c.as_slice-4.result.now ≡ c.args.outline.now.interface.wrappers = search rules in
    record {
      placed = c.requires.placed;
      bindings = c.requires.outline.bindings;
      maps = rw slice c.in_ok-maps.ensures.ok;
      functions = rw functions c.requires.outline.functions;
      wrappers = rw wrappers c.requires.outline.interface.wrappers;
      few = c.requires.few;
      wrapper_room = c.requires.wrapper_room;
      room = c.requires.segments;
    }

pub sources_of-exports-requires-clause-maps : goal.sources_of-exports-requires-clause-maps
sources_of-exports-requires-clause-maps c =
    let input = c.args.input.now in
    let same : c.as_slice-5.result.now ≡ c.in_ok-maps.maps = search rules in
    subst (λ (ms : List WasmObjectIndexMap). HaveIndices input ms) (sym same)
    (whole_maps_have input c.args.placing.now c.in_ok-maps.maps c.in_ok-maps.ensures.ok)
