use Rattle.std.proofs.Common.{◌≡◌, ◌∙◌, ◌+◌, ◌<◌, Bool, List, length, rules, ap, arith, get_or}
use Rattle.std.proofs.lemmas.List.FromFn.{get_or-map-range_with_len, length-map-range_with_len}
use Rattle.wl_bind.specs.ThreadData.{is_thread_segment}
use Rattle.wl_lists.proofs.Places.{item_at}
use Rattle.wl_places.proofs.kept_data.kept_segments.Goals as goal

pub index-tls-requires : goal.index-tls-requires
index-tls-requires c =
    let file = c.args.file.now in
    let long : length c.in_ok-thread.thread.items ≡ length file.segments =
    ap length c.in_ok-thread.ensures ∙ length-map-range_with_len (is_thread_segment file) 0 (length file.segments) in
    let within : c.loop-number.number < length file.segments = search rules in
    omega (arith, long, within)

pub push_if-requires-clause-here : goal.push_if-requires-clause-here
push_if-requires-clause-here c =
    let within : c.loop-number.number < length c.args.file.now.segments = search rules in
    let at : c.segment-item.result ≡ get_or c.args.file.now.segments c.loop-number.number c.segment-item.result = search rules in
    item_at c.args.file.now.segments c.loop-number.number c.segment-item.result within at

pub push_if-requires-clause-tls : goal.push_if-requires-clause-tls
push_if-requires-clause-tls c =
    let file = c.args.file.now in
    let k = c.loop-number.number in
    let within : k < length file.segments = search rules in
    let same : 0 + k ≡ k = omega arith in
    let found : c.index-tls.result.now ≡ get_or c.in_ok-thread.thread.items k c.index-tls.result.now = search rules in
    found ∙ (ap (λ (bs : List Bool). get_or bs k c.index-tls.result.now) c.in_ok-thread.ensures
    ∙ get_or-map-range_with_len (is_thread_segment file) 0 (length file.segments) k k c.index-tls.result.now within same)
