use Rattle.std.proofs.Common.{◌≡◌, ◌∙◌, ◌&&◌, ◌+◌, ◌<◌, ◌≤◌, Bool, false, not, List, length, rules, sym, ap, arith, get_or, Option, Some, slice_get}
use Rattle.std.specs.Option.{option_map_or}
use Rattle.std.proofs.lemmas.List.FromFn.{length-map-range_with_len, get_or-map-range_with_len}
use Rattle.wl_module.specs.Segments.{Segment}
use Rattle.wl_symbols.specs.declared.units.WasmGcUnit.TheVariants.{DataSegment}
use Rattle.wl_symbols.specs.Input.{keeps}
use Rattle.wl_bind.specs.Made.{is_filled, is_kept_thread_data, is_kept_common_data, keeps_thread_data, keeps_common_data}
use Rattle.wl_bind.specs.ThreadData.{is_thread_segment}
use Rattle.wl_lists.proofs.Places.{item_at}
use Rattle.wl_bind.proofs.NeedLaws.{number_more, number_end}
use Rattle.wl_bind.proofs.needs.kept_data_in.Goals as goal

pub bounds-of_threads-k : goal.bounds-of_threads-k
bounds-of_threads-k c =
    let file = c.args.file.now in
    let long : length c.as_slice-of_threads.result.now ≡ length file.segments =
    ap length (c.as_slice-of_threads.ensures.value ∙ c.in_ok-marks.ensures) ∙ length-map-range_with_len (is_thread_segment file) 0 (length file.segments)
    in
    let within : c.loop-k.k < length file.segments = search rules in
    omega (arith, long, within)

pub loop-k-preserved : goal.loop-k-preserved
loop-k-preserved c =
    let input = c.args.input.now in
    let object = c.args.object in
    let file = c.args.file.now in
    let k = c.loop-k.k in
    let n = length file.segments in
    let item = c.segment-item.result in
    let within : k < n = search rules in
    let same : 0 + k ≡ k = omega arith in
    let kept = keeps input object (DataSegment k) in
    let mark : get_or c.as_slice-of_threads.result.now k false ≡ is_thread_segment file k =
    ap (λ (bs : List Bool). get_or bs k false) (c.as_slice-of_threads.ensures.value ∙ c.in_ok-marks.ensures)
    ∙ get_or-map-range_with_len (is_thread_segment file) 0 n k k false within same in
    let at : item ≡ get_or file.segments k item = search rules in
    let here : slice_get file.segments k ≡ Some item = item_at file.segments k item within at in
    record {
      thread = number_more (is_kept_thread_data input object file) n k c.loop-k.kept.thread
          c.kept_by_segment-here.result.thread c.joined-kept.result.thread
          (keeps_thread_data input object file) within
          (c.kept_by_segment-here.ensures.thread ∙ ap (λ (b : Bool). kept && b) mark)
          c.joined-kept.ensures.thread c.loop-k.invariant.thread;
      common = number_more (is_kept_common_data input object file) n k c.loop-k.kept.common
          c.kept_by_segment-here.result.common c.joined-kept.result.common
          (keeps_common_data input object file) within
          (c.kept_by_segment-here.ensures.common
          ∙ (ap (λ (b : Bool). kept && not b && is_filled item) mark
          ∙ ap (λ (o : Option Segment). kept && not (is_thread_segment file k) && option_map_or is_filled
          o false) (sym here)))
          c.joined-kept.ensures.common c.loop-k.invariant.common;
    }

pub returns-clause-thread : goal.returns-clause-thread
returns-clause-thread c =
    let input = c.args.input.now in
    let file = c.args.file.now in
    let past : length file.segments ≤ c.loop-k.k = search rules in
    number_end (is_kept_thread_data input c.args.object file) (length file.segments) c.loop-k.k
    c.loop-k.kept.thread (keeps_thread_data input c.args.object file) past c.loop-k.invariant.thread

pub returns-clause-common : goal.returns-clause-common
returns-clause-common c =
    let input = c.args.input.now in
    let file = c.args.file.now in
    let past : length file.segments ≤ c.loop-k.k = search rules in
    number_end (is_kept_common_data input c.args.object file) (length file.segments) c.loop-k.k
    c.loop-k.kept.common (keeps_common_data input c.args.object file) past c.loop-k.invariant.common
