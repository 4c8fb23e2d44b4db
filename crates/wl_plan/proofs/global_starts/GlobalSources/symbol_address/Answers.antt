use Rattle.std.proofs.Common.{◌∙◌, ◌<◌, length, sym, ap, Some}
use Rattle.std.proofs.lemmas.Bool.{ltb-true, ltb-false}
use Rattle.std.proofs.lemmas.Option.{slice_get-get_or, slice_get_past}
use Rattle.wl_index.specs.declared.index_map.WasmObjectIndexMap.{WasmObjectIndexMap}
use Rattle.wl_plan.proofs.GlobalLaws.{address_in, address_nowhere}
use Rattle.wl_plan.proofs.global_starts.GlobalSources.symbol_address.Goals as goal

pub returns-in-Some : goal.returns-in-Some
returns-in-Some c =
    let s = c.args.self.now in
    let i = c.args.datum.object in
    let lt : i < length s.maps.now =
    ltb-true i (length s.maps.now) (sym c.in-Some.ensures.lookup.0) in
    let lies = address_in s.book.now.input.now s.book.now.placing.now s.maps.now
    i c.args.datum.symbol c.in-Some.map.now c.requires.maps
    (slice_get-get_or s.maps.now i c.in-Some.map.now lt
    ∙ ap (λ (m : WasmObjectIndexMap). Some m) (sym c.in-Some.ensures.lookup.1)) in
    rw (c.unwrap_or.ensures, c.data_address.ensures) lies

pub returns-in-None : goal.returns-in-None
returns-in-None c =
    let s = c.args.self.now in
    let i = c.args.datum.object in
    address_nowhere s.book.now.input.now s.book.now.placing.now s.maps.now
    i c.args.datum.symbol c.requires.maps
    (slice_get_past s.maps.now i
    (ltb-false i (length s.maps.now) (sym c.in-None.ensures.lookup.0)))
