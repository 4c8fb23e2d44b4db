use Rattle.std.proofs.Common.{◌≡◌, ◌∙◌, ℕ, ◌<◌, ◌+◌, List, [], ◌∷◌, ◌++◌, length, sym, ap, subst, arith, length-append}
use Rattle.std.proofs.lemmas.Iterator.Adapters.{YieldsList-from_vec}
use Rattle.std.proofs.lemmas.Iterator.Consumers.{YieldsList-turn, YieldsList-end}
use Rattle.wl_index.specs.declared.index_map.WasmObjectIndexMap.{WasmObjectIndexMap}
use Rattle.wl_places.specs.IndexedMaps.{AreWholeMaps}
use Rattle.wl_places.specs.IndexSteps.{segments_before, IsMapOf}
use Rattle.wl_places.proofs.AddressLaws.{all_laid}
use Rattle.wl_places.proofs.IndexLaws.{AreDone, none_done, one_done, map_of, maps_within, all_done, first_room}
use Rattle.wl_places.proofs.index_maps.whole_maps.Goals as goal

pub loop-map-init : goal.loop-map-init
loop-map-init c = (
  tt,
  tt,
  subst (λ (ms : List WasmObjectIndexMap). AreDone c.args.book.now 0 0 ms)
      (sym c.new-whole.ensures.items) (none_done c.args.book.now),
)

pub whole_map-requires-clause-here : goal.whole_map-requires-clause-here
whole_map-requires-clause-here c =
    let book = c.args.book.now in
    let gives = c.into_iter-map-iterator.ensures.into_iter_gives in
    let k : ℕ = length c.loop-map.yielded in
    let t =
    YieldsList-turn (YieldsList-from_vec {s = c.into_iter-map-iterator.result} c.args.maps
    (gives.0 ∙ c.into_vec-map-items.ensures)
    (gives.1 ∙ (c.into_vec-map-items.result.ok.0
    ∙ ap (λ (ms : List WasmObjectIndexMap). length ms) c.into_vec-map-items.ensures)))
    c.loop-map.yielded _ c.loop-map.yielded_by _ c.next.new.self c.in-Some.map c.in-Some.is
    c.next.ensures.steps in
    let at : c.len-object.result ≡ k =
    c.len-object.ensures ∙ (c.loop-map.whole.ok.0 ∙ c.loop-map.invariant.2.long) in
    subst (λ (i : ℕ). IsMapOf book.input.now i c.in-Some.map) (sym at)
    (map_of book.input.now c.args.maps k c.in-Some.map c.requires.maps t.0 t.1)

pub whole_map-requires-clause-first : goal.whole_map-requires-clause-first
whole_map-requires-clause-first c =
    let book = c.args.book.now in
    let k : ℕ = length c.loop-map.yielded in
    let at : c.len-object.result ≡ k =
    c.len-object.ensures ∙ (c.loop-map.whole.ok.0 ∙ c.loop-map.invariant.2.long) in
    c.loop-map.invariant.2.first_is
    ∙ ap (λ (i : ℕ). segments_before book.placing.now.places.layouts i) (sym at)

pub layouts_of-requires : goal.layouts_of-requires
layouts_of-requires c =
    let book = c.args.book.now in
    let gives = c.into_iter-map-iterator.ensures.into_iter_gives in
    let k : ℕ = length c.loop-map.yielded in
    let t =
    YieldsList-turn (YieldsList-from_vec {s = c.into_iter-map-iterator.result} c.args.maps
    (gives.0 ∙ c.into_vec-map-items.ensures)
    (gives.1 ∙ (c.into_vec-map-items.result.ok.0
    ∙ ap (λ (ms : List WasmObjectIndexMap). length ms) c.into_vec-map-items.ensures)))
    c.loop-map.yielded _ c.loop-map.yielded_by _ c.next.new.self c.in-Some.map c.in-Some.is
    c.next.ensures.steps in
    let at : c.len-object.result ≡ k =
    c.len-object.ensures ∙ (c.loop-map.whole.ok.0 ∙ c.loop-map.invariant.2.long) in
    let within =
    maps_within book.input.now book.placing.now c.args.maps k c.requires.maps
    (all_laid book.input.now book.placing.now c.segments_have_layouts.ensures
    c.requires.book.placed) t.0 in
    let lt : k < length book.placing.now.places.layouts = within.1 in
    omega (arith, at, lt)

pub overflow_cast-first : goal.overflow_cast-first
overflow_cast-first c =
    let book = c.args.book.now in
    let k : ℕ = length c.loop-map.yielded in
    let at : c.len-object.result ≡ k =
    c.len-object.ensures ∙ (c.loop-map.whole.ok.0 ∙ c.loop-map.invariant.2.long) in
    let room =
    first_room book.placing.now c.len-object.result c.loop-map.first c.layouts_of.result.now
    c.layouts_of.ensures
    (c.loop-map.invariant.2.first_is
    ∙ ap (λ (i : ℕ). segments_before book.placing.now.places.layouts i) (sym at))
    c.requires.room in
    omega (arith, room)

pub overflow_add-first : goal.overflow_add-first
overflow_add-first c =
    let book = c.args.book.now in
    let k : ℕ = length c.loop-map.yielded in
    let at : c.len-object.result ≡ k =
    c.len-object.ensures ∙ (c.loop-map.whole.ok.0 ∙ c.loop-map.invariant.2.long) in
    let room =
    first_room book.placing.now c.len-object.result c.loop-map.first c.layouts_of.result.now
    c.layouts_of.ensures
    (c.loop-map.invariant.2.first_is
    ∙ ap (λ (i : ℕ). segments_before book.placing.now.places.layouts i) (sym at))
    c.requires.room in
    omega (arith, room)

pub loop-map-preserved : goal.loop-map-preserved
loop-map-preserved c =
    let book = c.args.book.now in
    let gives = c.into_iter-map-iterator.ensures.into_iter_gives in
    let k : ℕ = length c.loop-map.yielded in
    let t =
    YieldsList-turn (YieldsList-from_vec {s = c.into_iter-map-iterator.result} c.args.maps
    (gives.0 ∙ c.into_vec-map-items.ensures)
    (gives.1 ∙ (c.into_vec-map-items.result.ok.0
    ∙ ap (λ (ms : List WasmObjectIndexMap). length ms) c.into_vec-map-items.ensures)))
    c.loop-map.yielded _ c.loop-map.yielded_by _ c.next.new.self c.in-Some.map c.in-Some.is
    c.next.ensures.steps in
    let at : c.len-object.result ≡ k =
    c.len-object.ensures ∙ (c.loop-map.whole.ok.0 ∙ c.loop-map.invariant.2.long) in
    let within =
    maps_within book.input.now book.placing.now c.args.maps k c.requires.maps
    (all_laid book.input.now book.placing.now c.segments_have_layouts.ensures
    c.requires.book.placed) t.0 in
    let one : length (c.loop-map.yielded ++ c.in-Some.map ∷ []) ≡ k + 1 =
    length-append c.loop-map.yielded (c.in-Some.map ∷ []) in (
      tt,
      tt,
      subst (λ (i : ℕ). AreDone book i
          (c.loop-map.first + length c.layouts_of.result.now) c.push.new.self.items) (sym one)
          (one_done book k c.len-object.result c.loop-map.first c.loop-map.whole.items
          c.push.new.self.items c.in_ok-whole_map.field-0 c.layouts_of.result.now at within.0
          c.layouts_of.ensures c.in_ok-push.ensures.items c.in_ok-whole_map.ensures.ok
          c.in_ok-whole_map.ensures.low c.loop-map.invariant.2),
    )

pub returns-clause-ok : goal.returns-clause-ok
returns-clause-ok c =
    let book = c.args.book.now in
    let gives = c.into_iter-map-iterator.ensures.into_iter_gives in
    let k : ℕ = length c.loop-map.yielded in
    let t =
    YieldsList-end (YieldsList-from_vec {s = c.into_iter-map-iterator.result} c.args.maps
    (gives.0 ∙ c.into_vec-map-items.ensures)
    (gives.1 ∙ (c.into_vec-map-items.result.ok.0
    ∙ ap (λ (ms : List WasmObjectIndexMap). length ms) c.into_vec-map-items.ensures)))
    c.loop-map.yielded _ c.loop-map.yielded_by _ c.next.new.self c.in-None.is c.next.ensures.steps in
    subst (λ (ms : List WasmObjectIndexMap). AreWholeMaps book.input.now book.placing.now ms)
    (sym c.new.ensures)
    (all_done book c.args.maps c.loop-map.whole.items k c.loop-map.first c.requires.maps t.1
    c.loop-map.invariant.2).0

pub returns-clause-low : goal.returns-clause-low
returns-clause-low c =
    let book = c.args.book.now in
    let gives = c.into_iter-map-iterator.ensures.into_iter_gives in
    let k : ℕ = length c.loop-map.yielded in
    let t =
    YieldsList-end (YieldsList-from_vec {s = c.into_iter-map-iterator.result} c.args.maps
    (gives.0 ∙ c.into_vec-map-items.ensures)
    (gives.1 ∙ (c.into_vec-map-items.result.ok.0
    ∙ ap (λ (ms : List WasmObjectIndexMap). length ms) c.into_vec-map-items.ensures)))
    c.loop-map.yielded _ c.loop-map.yielded_by _ c.next.new.self c.in-None.is c.next.ensures.steps in
    (all_done book c.args.maps c.loop-map.whole.items k c.loop-map.first c.requires.maps t.1
    c.loop-map.invariant.2).1
