use Rattle.std.proofs.Common.{◌≡◌, Ok, refl}
use Rattle.wl_bytes.specs.Lists.{number_at}
use Rattle.wl_bytes.specs.Lists.{stretch_at}
use Rattle.wl_module.proofs.SegmentLaws.{segment_read}
use Rattle.wl_module.proofs.segments.read_segment.Goals as goal

pub overflow_sub-segment : goal.overflow_sub-segment
overflow_sub-segment c =
    let n : number_at c.read_target.new.reader ≡ Ok (c.in_ok-len.len, c.read_u32.new.self) = rw c.in_ok-len.ensures.exact refl in
    let b : stretch_at c.in_ok-len.len c.read_u32.new.self ≡ Ok (c.in_ok-payload.payload.now, c.take.new.self) = rw c.in_ok-payload.ensures.exact refl in
    let r = segment_read c.args.reader.now c.read_flag.new.reader c.read_target.new.reader c.read_u32.new.self c.take.new.self c.in_ok-flag.flag c.in_ok-memory_index.memory_index c.in_ok-len.len c.in_ok-payload.payload.now c.in_ok-flag.ensures c.in_ok-memory_index.ensures n b in
    rw (c.in_ok-section_offset.ensures.value, c.in_ok-end.ensures.value) r.0

pub returns : goal.returns
returns c =
    let n : number_at c.read_target.new.reader ≡ Ok (c.in_ok-len.len, c.read_u32.new.self) = rw c.in_ok-len.ensures.exact refl in
    let b : stretch_at c.in_ok-len.len c.read_u32.new.self ≡ Ok (c.in_ok-payload.payload.now, c.take.new.self) = rw c.in_ok-payload.ensures.exact refl in
    let r = segment_read c.args.reader.now c.read_flag.new.reader c.read_target.new.reader c.read_u32.new.self c.take.new.self c.in_ok-flag.flag c.in_ok-memory_index.memory_index c.in_ok-len.len c.in_ok-payload.payload.now c.in_ok-flag.ensures c.in_ok-memory_index.ensures n b in
    rw (c.in_ok-section_offset.ensures.value, c.in_ok-end.ensures.value, c.kind.ensures) r.1
