use Rattle.std.proofs.Common.{◌≡◌, ◌∙◌, ℕ, List, Option, map, take, sym, ap, subst}
use Rattle.std.proofs.lemmas.List.{take_all}
use Rattle.wl_places.specs.SegmentNumbers.{AreAllNumbers}
use Rattle.wl_places.proofs.NumberLaws.{numbers_of, all_numbered}
use Rattle.wl_places.proofs.segment_numbers.all_segment_numbers.Goals as goal

pub returns : goal.returns
returns c =
    let input = c.args.input.now in
    let g = c.args.placing.now in
    let maps = c.args.maps.now in
    let all : map numbers_of (take c.loop-map.map-index maps) ≡ map numbers_of maps =
    ap (map numbers_of) (take_all c.loop-map.map-index maps c.loop-map-test.false) in
    subst (λ (rows : List (List (Option ℕ))). AreAllNumbers input g rows)
    (sym (c.new.ensures ∙ (c.loop-map.invariant ∙ all)))
    (all_numbered c.segments_have_layouts.ensures input g maps c.requires.placed c.requires.room
    c.live-live.ensures.kept c.requires.maps)
