use Rattle.std.proofs.Common.{◌∙◌, List, ap, false, length, map, rules}
use Rattle.std.specs.List.{range_with_len}
use Rattle.wl_module.specs.Segments.{Segment}
use Rattle.wl_bind.proofs.MarkLaws.{none_marked, symbol_more, symbols_end, info_more, infos_end}
use Rattle.wl_bind.proofs.thread_segments.thread_data.Goals as goal

pub loop-symbol-init : goal.loop-symbol-init
loop-symbol-init c =
    c.in_ok-marks.ensures.items_if_clones_equal (λ y e. e)
    ∙ (none_marked 0 (length c.segments.result.now)
    ∙ ap (λ (ss : List Segment). map (λ k. false) (range_with_len 0 (length ss))) c.segments.ensures)

pub loop-symbol-preserved : goal.loop-symbol-preserved
loop-symbol-preserved c =
    let file = c.args.file.now in
    symbol_more (length file.segments) file.symbols c.loop-symbol.symbol-index c.symbol-item.result
    c.loop-symbol.marks.items c.mark_by_symbol.new.marks.items (search rules)
    (search rules) c.mark_by_symbol.ensures c.loop-symbol.invariant

pub loop-segment-init : goal.loop-segment-init
loop-segment-init c =
    let file = c.args.file.now in
    symbols_end (length file.segments) file.symbols c.loop-symbol.symbol-index
    c.loop-symbol.marks.items (search rules) c.loop-symbol.invariant

pub loop-segment-preserved : goal.loop-segment-preserved
loop-segment-preserved c =
    let file = c.args.file.now in
    info_more (length file.segments) file.symbols file.segment_infos c.loop-segment.segment
    c.info-item.result
    c.loop-segment.marks.items c.set_mark.new.marks.items (search rules)
    (search rules) (search rules) c.loop-segment.invariant

pub returns : goal.returns
returns c =
    let file = c.args.file.now in
    infos_end (length file.segments) file.symbols file.segment_infos c.loop-segment.segment
    c.loop-segment.marks.items (search rules) c.loop-segment.invariant
