use Rattle.std.proofs.Common.{◌≡◌, ◌∙◌, ap, sym, subst, arith, Option, Some, slice_get}
use Rattle.std.specs.Option.{option_map}
use Rattle.std.proofs.lemmas.Option.{slice_get_within}
use Rattle.wl_module.specs.Exports.{Exported}
use Rattle.wl_index.specs.declared.index_map.WasmObjectIndexMap.{WasmObjectIndexMap}
use Rattle.wl_bind.specs.FunctionSpace.{local_functions}
use Rattle.wl_bind.specs.References.{there}
use Rattle.wl_exports.specs.Exports.{OfFunction, export_of}
use Rattle.wl_exports.specs.steps.Exports.{IsPlainIf, index_at}
use Rattle.wl_lists.proofs.Places.{item_at}
use Rattle.wl_exports.proofs.PlaceLaws.{function_at, has_map, the_map}
use Rattle.wl_exports.proofs.indexed.function_export.Goals as goal

pub returns-in-Some : goal.returns-in-Some
returns-in-Some c = λ o here.
    let input = c.args.sources.now.input.now in
    let maps = c.args.sources.now.maps.now in
    let h = has_map input maps c.args.object o c.requires.maps c.requires.functions c.requires.globals here in
    let look = c.in-Some.ensures.lookup in
    let at : slice_get maps c.args.object ≡ Some c.in-Some.map.now =
    item_at maps c.args.object c.in-Some.map.now look.3.0 look.1 in
    let one = the_map input maps c.args.object o c.in-Some.map.now h at in
    let is : c.export_at.result ≡ function_at c.args.name.now (index_at h.map_is.function_indices c.args.index) =
    c.export_at.ensures
    ∙ ap (function_at c.args.name.now)
    (c.index_at-index.ensures
    ∙ (ap (λ indices. index_at indices c.args.index) c.as_slice.ensures
    ∙ ap (λ (m : WasmObjectIndexMap). index_at m.function_indices c.args.index) (sym one))) in
    subst (λ (x : Option Exported). IsPlainIf input (option_map (export_of c.args.name.now)
    (option_map OfFunction (there (local_functions input c.args.object o) c.args.index))) x) (sym is)
    (h.functions c.args.name.now c.args.index)

pub returns-in-None : goal.returns-in-None
returns-in-None c = λ o here.
    let input = c.args.sources.now.input.now in
    let maps = c.args.sources.now.maps.now in
    let h = has_map input maps c.args.object o c.requires.maps c.requires.functions c.requires.globals here in
    let look = c.in-None.ensures.lookup in
    let past = look.3 in
    let within = slice_get_within maps c.args.object h.map_is h.at in
    absurd (omega (arith, past, within))
