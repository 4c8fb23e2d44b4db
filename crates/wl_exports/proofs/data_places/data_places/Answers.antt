use Rattle.std.proofs.Common.{◌≡◌, ◌∙◌, ◌+◌, ap, length}
use Rattle.wl_bind.specs.ExportedData.{dynamic_data, forced_data}
use Rattle.wl_bind.specs.declared.exported.ExportedData.{ExportedData}
use Rattle.wl_exports.proofs.DataLaws.{data_start, data_end, data_noted_by}
use Rattle.wl_exports.proofs.data_places.data_places.Goals as goal

pub returns : goal.returns
returns c =
    let input = c.args.sources.now.input.now in
    let dynamic : c.as_slice-dynamic.result.now ≡ dynamic_data input =
    c.as_slice-dynamic.ensures ∙ (ap (λ (e : ExportedData). e.dynamic) c.exported.ensures
    ∙ c.requires.indices.exported.dynamic) in
    let forced : c.as_slice-forced.result.now ≡ forced_data input =
    c.as_slice-forced.ensures.keys ∙ (ap (λ (e : ExportedData). e.forced.keys) c.exported-2.ensures
    ∙ c.requires.indices.exported.forced) in
    let end : c.globals_end.result
    ≡ data_start input + (length (dynamic_data input) + length (forced_data input)) =
    c.globals_end.ensures ∙ data_end input c.args.sources.now.indices.now.globals c.requires.indices.globals in
    data_noted_by input c.as_slice-dynamic.result.now c.as_slice-forced.result.now c.globals_end.result
    c.new-places.result c.note_places.new.places c.note_places-2.new.places dynamic forced end
    c.in_ok-note_places.ensures c.in_ok-note_places-2.ensures
