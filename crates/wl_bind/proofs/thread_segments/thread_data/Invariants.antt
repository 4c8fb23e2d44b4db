use Rattle.std.proofs.Common.{◌≡◌, map, length, take, slice_get}
use Rattle.std.specs.List.{list_any, range_with_len}
use Rattle.wl_bind.specs.ThreadData.{is_thread_symbol_on, is_thread_segment_by}
use Rattle.wl_bind.proofs.thread_segments.thread_data.Given as goal

abbrev pub invariant-loop-symbol : goal.invariant-loop-symbol
invariant-loop-symbol l =
    l.marks.items
    ≡ map (λ k. list_any (is_thread_symbol_on k) (take l.symbol-index l.file.symbols))
    (range_with_len 0 (length l.file.segments))

abbrev pub invariant-loop-segment : goal.invariant-loop-segment
invariant-loop-segment l =
    l.marks.items
    ≡ map (λ k. is_thread_segment_by l.file.symbols k
    (slice_get (take l.segment l.file.segment_infos) k))
    (range_with_len 0 (length l.file.segments))
