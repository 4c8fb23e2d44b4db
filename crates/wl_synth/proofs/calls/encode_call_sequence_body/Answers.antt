use Rattle.std.proofs.Common.{[], ◌∷◌}
use Rattle.std.specs.List.{flat_map}
use Rattle.wl_synth.specs.Wat as wat
use Rattle.wl_synth.specs.Bodies.{call_ops, call_sequence_ops}
use Rattle.wl_synth.proofs.BodyLaws.{last_is_end, made_result, added, sequence_in_range, memory_alone}
use Rattle.wl_synth.proofs.calls.encode_call_sequence_body.Goals as goal

pub returns : goal.returns
returns c =
    let calls = flat_map call_ops c.args.calls.now in
    let all = call_sequence_ops c.args.calls.now in
    let first = added calls [] _ _ c.new-body.ensures c.in_ok-push_calls.ensures in
    let same = added (wat.end ∷ []) calls _ _ first c.in_ok-push.ensures in
    memory_alone _ c.spell.result all (sequence_in_range c.args.calls.now)
    (made_result _ c.spell.result c.push.new.self all same (last_is_end calls) c.spell.ensures)
